-- Carrying takes sums, negatives and products of fields to those of curves.
-- Assumes nothing.
use Rattle.std.proofs.Common.{◌≡◌, refl, sym, ◌∙◌, ap, ap₂, List, [], ◌∷◌, ℕ, zero, suc, ◌≤◌, arith, le_refl, pos}
use mathlib.Core.Path.{fun_ext}
use Rattle.calculus.proofs.Ints.{◌⊕◌, ◌⊗◌, neg, sum}
use Rattle.calculus.proofs.Jets.{Curve}
use Rattle.calculus.proofs.Space.{Space, carry}
use Rattle.calculus.proofs.Ring.{add-mul, mul-add, neg-mul, mul-neg}
use Rattle.calculus.proofs.Sums.{sum-cong, sum-linear, at-neg}
use Rattle.calculus.proofs.Binom.{leib}
use Rattle.calculus.proofs.Curves.{◌·◌, ◌∔◌, D, mul-suc, ·-comm, ·-assoc, ·-plus, ·-cong, ·-sum, sum-·}
use Rattle.calculus.proofs.Mult.{mult}
use Rattle.calculus.proofs.Faa.{faa}
use Rattle.calculus.proofs.Tensor.{T}
use Rattle.calculus.proofs.Carried.{faa-linear, summand, carry-is, chain}

-- fields with a sum, a negative and a product, by Leibniz's rule; the derivatives commute
pub record Algebra (S : Space) : Type 0 where
  pub plus : S.Field → S.Field → S.Field
  pub minus : S.Field → S.Field
  pub times : S.Field → S.Field → S.Field
  pub commute : (j k : ℕ) (s : S.Field) → S.∂ j (S.∂ k s) ≡ S.∂ k (S.∂ j s)
  pub ev-plus : (a b : S.Field) → S.ev (plus a b) ≡ S.ev a ⊕ S.ev b
  pub ∂-plus : (k : ℕ) (a b : S.Field) → S.∂ k (plus a b) ≡ plus (S.∂ k a) (S.∂ k b)
  pub ev-minus : (a : S.Field) → S.ev (minus a) ≡ neg (S.ev a)
  pub ∂-minus : (k : ℕ) (a : S.Field) → S.∂ k (minus a) ≡ minus (S.∂ k a)
  pub ev-times : (a b : S.Field) → S.ev (times a b) ≡ S.ev a ⊗ S.ev b
  pub ∂-times : (k : ℕ) (a b : S.Field) → S.∂ k (times a b) ≡ plus (times (S.∂ k a) b) (times a (S.∂ k b))

module _ (S : Space) (A : Algebra S) (c : ℕ → Curve) where
  T-plus : (a b : S.Field) (l : List ℕ) → T S c (A.plus a b) l ≡ T S c a l ⊕ T S c b l
  unfolding T
  T-plus a b [] = A.ev-plus a b
  T-plus a b (p ∷ l) =
      sum-cong S.dim (λ k h. ap (λ x. c k p ⊗ x) (ap (λ s. T S c s l) (A.∂-plus k a b) ∙ T-plus (S.∂ k a) (S.∂ k b) l) ∙ mul-add _ _ _)
      ∙ (sum-linear S.dim).plus (λ k. c k p ⊗ T S c (S.∂ k a) l) (λ k. c k p ⊗ T S c (S.∂ k b) l)

  T-minus : (a : S.Field) (l : List ℕ) → T S c (A.minus a) l ≡ neg (T S c a l)
  unfolding T
  T-minus a [] = A.ev-minus a
  T-minus a (p ∷ l) =
      sum-cong S.dim (λ k h. ap (λ x. c k p ⊗ x) (ap (λ s. T S c s l) (A.∂-minus k a) ∙ T-minus (S.∂ k a) l) ∙ mul-neg _ _)
      ∙ at-neg (sum S.dim) (sum-linear S.dim) (λ k. c k p ⊗ T S c (S.∂ k a) l)

  pub carry-plus : (a b : S.Field) → carry S c (A.plus a b) ≡ carry S c a ∔ carry S c b
  unfolding summand
  carry-plus a b = fun_ext (λ n.
      carry-is S c (A.plus a b) n
      ∙ ap (λ f. faa f n) (fun_ext (λ l. ap (λ x. x ⊗ pos (mult l)) (T-plus a b l) ∙ add-mul _ _ _))
      ∙ (faa-linear n).plus (summand S c a) (summand S c b)
      ∙ ap₂ (λ x y. x ⊕ y) (sym (carry-is S c a n)) (sym (carry-is S c b n)))

  pub carry-minus : (a : S.Field) (n : ℕ) → carry S c (A.minus a) n ≡ neg (carry S c a n)
  unfolding summand
  carry-minus a n =
      carry-is S c (A.minus a) n
      ∙ ap (λ f. faa f n) (fun_ext (λ l. ap (λ x. x ⊗ pos (mult l)) (T-minus a l) ∙ neg-mul _ _))
      ∙ at-neg (λ f. faa f n) (faa-linear n) (summand S c a)
      ∙ ap neg (sym (carry-is S c a n))

  -- the derivative of a field that is carried
  abbrev inner : S.Field → Curve
  inner a n = sum S.dim (λ k. (D (c k) · carry S c (S.∂ k a)) n)

  inner-is : (a : S.Field) → D (carry S c a) ≡ inner a
  inner-is a = fun_ext (chain S c A.commute a)

  -- both sides of the product's rule, for one variable
  one-variable : (a b : S.Field) (k : ℕ) →
      D (c k) · (carry S c (S.∂ k a) · carry S c b ∔ carry S c a · carry S c (S.∂ k b))
      ≡ D (c k) · carry S c (S.∂ k a) · carry S c b ∔ carry S c a · (D (c k) · carry S c (S.∂ k b))
  one-variable a b k =
      ·-plus (D (c k)) _ _
      ∙ ap₂ (λ (x y : Curve). x ∔ y)
      (sym (·-assoc (D (c k)) (carry S c (S.∂ k a)) (carry S c b)))
      (sym (·-assoc (D (c k)) (carry S c a) (carry S c (S.∂ k b)))
      ∙ ap (λ x. x · carry S c (S.∂ k b)) (·-comm (D (c k)) (carry S c a))
      ∙ ·-assoc (carry S c a) (D (c k)) (carry S c (S.∂ k b)))

  up_to : (n m : ℕ) → m ≤ n → (a b : S.Field) → carry S c (A.times a b) m ≡ (carry S c a · carry S c b) m
  unfolding carry ◌·◌ leib
  up_to zero zero h a b = A.ev-times a b
  up_to zero (suc m) h a b = absurd (omega arith)
  up_to (suc n) zero h a b = A.ev-times a b
  up_to (suc n) (suc m) h a b =
      chain S c A.commute (A.times a b) m
      ∙ sum-cong S.dim (λ k l.
      ap (λ s. (D (c k) · carry S c s) m) (A.∂-times k a b)
      ∙ ·-cong m (λ i g. refl) (λ i g. ap (λ x. x i) (carry-plus (A.times (S.∂ k a) b) (A.times a (S.∂ k b)))
      ∙ ap₂ (λ x y. x ⊕ y) (up_to n i (omega arith) (S.∂ k a) b) (up_to n i (omega arith) a (S.∂ k b)))
      ∙ ap (λ x. x m) (one-variable a b k))
      ∙ (sum-linear S.dim).plus (λ k. (D (c k) · carry S c (S.∂ k a) · carry S c b) m) (λ k. (carry S c a · (D (c k) · carry S c (S.∂ k b))) m)
      ∙ ap₂ (λ x y. x ⊕ y)
      (sym (sum-· S.dim (λ k. D (c k) · carry S c (S.∂ k a)) (carry S c b) m) ∙ ap (λ x. (x · carry S c b) m) (sym (inner-is a)))
      (sym (·-sum S.dim (carry S c a) (λ k. D (c k) · carry S c (S.∂ k b)) m) ∙ ap (λ x. (carry S c a · x) m) (sym (inner-is b)))
      ∙ sym (mul-suc (carry S c a) (carry S c b) m)

  pub carry-times : (a b : S.Field) → carry S c (A.times a b) ≡ carry S c a · carry S c b
  carry-times a b = fun_ext (λ n. up_to n n (le_refl n) a b)
