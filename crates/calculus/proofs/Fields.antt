-- The jets of d variables have sums, negatives and products by Leibniz's rule, for every d.
-- Assumes nothing.
use Rattle.std.proofs.Common.{◌≡◌, refl, sym, ◌∙◌, ap, ap₂, ℕ, zero, suc, pos}
use mathlib.Core.Path.{fun_ext}
use Rattle.calculus.proofs.Ints.{◌⊕◌, ◌⊗◌, neg}
use Rattle.calculus.proofs.Jet.{Jet, derive, value, jets}
use Rattle.calculus.proofs.Ring.{middle, zeros, neg-zero, zero-add, add_comm, mul_comm}
use Rattle.calculus.proofs.Algebra.{Algebra}

abbrev pub plus : (d : ℕ) → Jet d → Jet d → Jet d
plus zero a b = a ⊕ b
plus (suc d) a b = λ m. plus d (a m) (b m)

abbrev pub minus : (d : ℕ) → Jet d → Jet d
minus zero a = neg a
minus (suc d) a = λ m. minus d (a m)

-- Leibniz's recursion
abbrev pub leib_j : (d : ℕ) → (ℕ → ℕ → Jet d) → ℕ → Jet d
leib_j d X zero = X 0 0
leib_j d X (suc m) = plus d (leib_j d (λ i j. X (suc i) j) m) (leib_j d (λ i j. X i (suc j)) m)

abbrev pub times : (d : ℕ) → Jet d → Jet d → Jet d
times zero a b = a ⊗ b
times (suc d) a b = leib_j d (λ i j. times d (a i) (b j))

plus-middle : (d : ℕ) (a b c e : Jet d) → plus d (plus d a b) (plus d c e) ≡ plus d (plus d a c) (plus d b e)
plus-middle zero a b c e = middle a b c e
plus-middle (suc d) a b c e = fun_ext (λ m. plus-middle d (a m) (b m) (c m) (e m))

leib_j-plus : (d : ℕ) (X Y : ℕ → ℕ → Jet d) (m : ℕ) → leib_j d (λ i j. plus d (X i j) (Y i j)) m ≡ plus d (leib_j d X m) (leib_j d Y m)
leib_j-plus d X Y zero = refl
leib_j-plus d X Y (suc m) =
    ap₂ (plus d) (leib_j-plus d (λ i j. X (suc i) j) (λ i j. Y (suc i) j) m) (leib_j-plus d (λ i j. X i (suc j)) (λ i j. Y i (suc j)) m)
    ∙ plus-middle d _ _ _ _

pub derive-plus : (d k : ℕ) (a b : Jet d) → derive d k (plus d a b) ≡ plus d (derive d k a) (derive d k b)
derive-plus zero k a b = sym (zero-add (pos 0))
derive-plus (suc d) zero a b = refl
derive-plus (suc d) (suc k) a b = fun_ext (λ m. derive-plus d k (a m) (b m))

pub derive-minus : (d k : ℕ) (a : Jet d) → derive d k (minus d a) ≡ minus d (derive d k a)
derive-minus zero k a = sym neg-zero
derive-minus (suc d) zero a = refl
derive-minus (suc d) (suc k) a = fun_ext (λ m. derive-minus d k (a m))

derive-leib_j : (d k : ℕ) (X : ℕ → ℕ → Jet d) (m : ℕ) → derive d k (leib_j d X m) ≡ leib_j d (λ i j. derive d k (X i j)) m
derive-leib_j d k X zero = refl
derive-leib_j d k X (suc m) =
    derive-plus d k (leib_j d (λ i j. X (suc i) j) m) (leib_j d (λ i j. X i (suc j)) m)
    ∙ ap₂ (plus d) (derive-leib_j d k (λ i j. X (suc i) j) m) (derive-leib_j d k (λ i j. X i (suc j)) m)

pub derive-times : (d k : ℕ) (a b : Jet d) → derive d k (times d a b) ≡ plus d (times d (derive d k a) b) (times d a (derive d k b))
derive-times zero k a b = simp zeros
derive-times (suc d) zero a b = refl
derive-times (suc d) (suc k) a b = fun_ext (λ m.
    derive-leib_j d k (λ i j. times d (a i) (b j)) m
    ∙ ap (λ X. leib_j d X m) (fun_ext (λ i. fun_ext (λ j. derive-times d k (a i) (b j))))
    ∙ leib_j-plus d (λ i j. times d (derive d k (a i)) (b j)) (λ i j. times d (a i) (derive d k (b j))) m)

pub derive-commute : (d j k : ℕ) (s : Jet d) → derive d j (derive d k s) ≡ derive d k (derive d j s)
derive-commute zero j k s = refl
derive-commute (suc d) zero zero s = refl
derive-commute (suc d) zero (suc k) s = refl
derive-commute (suc d) (suc j) zero s = refl
derive-commute (suc d) (suc j) (suc k) s = fun_ext (λ m. derive-commute d j k (s m))

pub value-plus : (d : ℕ) (a b : Jet d) → value d (plus d a b) ≡ value d a ⊕ value d b
value-plus zero a b = refl
value-plus (suc d) a b = value-plus d (a 0) (b 0)

pub value-minus : (d : ℕ) (a : Jet d) → value d (minus d a) ≡ neg (value d a)
value-minus zero a = refl
value-minus (suc d) a = value-minus d (a 0)

pub value-times : (d : ℕ) (a b : Jet d) → value d (times d a b) ≡ value d a ⊗ value d b
value-times zero a b = refl
value-times (suc d) a b = value-times d (a 0) (b 0)

abbrev pub algebra : (d : ℕ) → Algebra (jets d)
algebra d = record {
  plus = plus d;
  minus = minus d;
  times = times d;
  commute = derive-commute d;
  ev-plus = value-plus d;
  ∂-plus = derive-plus d;
  ev-minus = value-minus d;
  ∂-minus = derive-minus d;
  ev-times = value-times d;
  ∂-times = derive-times d;
}

-- the product is commutative
plus_comm : (d : ℕ) (a b : Jet d) → plus d a b ≡ plus d b a
plus_comm zero a b = add_comm a b
plus_comm (suc d) a b = fun_ext (λ m. plus_comm d (a m) (b m))

leib_j-flip : (d : ℕ) (X : ℕ → ℕ → Jet d) (m : ℕ) → leib_j d X m ≡ leib_j d (λ i j. X j i) m
leib_j-flip d X zero = refl
leib_j-flip d X (suc m) = ap₂ (plus d) (leib_j-flip d (λ i j. X (suc i) j) m) (leib_j-flip d (λ i j. X i (suc j)) m) ∙ plus_comm d _ _

pub times-comm : (d : ℕ) (a b : Jet d) → times d a b ≡ times d b a
times-comm zero a b = mul_comm a b
times-comm (suc d) a b = fun_ext (λ m.
    leib_j-flip d (λ i j. times d (a i) (b j)) m ∙ ap (λ X. leib_j d X m) (fun_ext (λ i. fun_ext (λ j. times-comm d (a j) (b i)))))
