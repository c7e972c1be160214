-- The laws of the formulas at the integers. Carrying along a curve keeps sums, differences, products and exact quotients: for fields of any
-- number of variables, and for surfaces in the forms that contracts cite. Assumes nothing.
use Rattle.std.proofs.Common.{◌≡◌, refl, sym, ◌∙◌, ap, ap₂, subst, ℕ, suc, ◌+◌, ◌≤◌, ℤ, pos, ◌*ℤ◌}
use mathlib.Core.Path.{fun_ext}
use lib.Signed.{rem_z}
use Rattle.calculus.specs.Kind.{regular, plain}
use Rattle.calculus.specs.Curve
use Rattle.calculus.specs.Surface
use Rattle.calculus.specs.Carry.{digits, ones, coordinates, field_derivatives, composite_derivatives}
use Rattle.calculus.proofs.Ints.{◌⊕◌, ◌⊗◌, neg, sum}
use Rattle.calculus.proofs.Jets.{curve_mul}
use Rattle.calculus.proofs.Space.{carry}
use Rattle.calculus.proofs.Jet.{Jet, derive, value, jets, Same}
use Rattle.calculus.proofs.CarryAlike.{digits-length}
use Rattle.calculus.proofs.UpTo.{CurvesAgree, SurfacesAgree, field_derivatives-upto, composite_derivatives-upto}
use Rattle.calculus.proofs.Plain.{curve-product, surface-product, along, entry_of, carry-is}
use Rattle.calculus.proofs.Masks.{surface-is}
use Rattle.calculus.proofs.Curves.{curve_mul-is, ·-comm}
use Rattle.calculus.proofs.Carried.{chain}
use Rattle.calculus.proofs.Algebra.{carry-plus, carry-minus, carry-times}
use Rattle.calculus.proofs.Fields.{plus, minus, times, algebra, times-comm}
use Rattle.calculus.proofs.Entries.{same_entries}
use Rattle.calculus.proofs.Closed.{surface-times}
use Rattle.calculus.proofs.Division.{rem-exact}
use Rattle.calculus.proofs.Quotient.{exact-product, quotient-factor, quotient-dividend-factor, surface-exact-product}

-- ---- products do not mind the order of their factors
pub product-comm : (a b : ℕ → ℤ) (m : ℕ) → Curve.product plain a b m ≡ Curve.product plain b a m
product-comm a b m =
    curve-product a b m ∙ ap (λ (x : ℕ → ℤ). x m) (curve_mul-is a b ∙ ·-comm a b ∙ sym (curve_mul-is b a)) ∙ sym (curve-product b a m)

pub surface-product-comm : (a b : ℕ → ℕ → ℤ) (m n : ℕ) → Surface.product plain a b m n ≡ Surface.product plain b a m n
surface-product-comm a b m n =
    surface-product a b m n ∙ ap (λ (x : ℕ → ℕ → ℤ). x m n) (surface-times a b ∙ times-comm 2 a b ∙ sym (surface-times b a)) ∙ sym (surface-product b a m n)

-- ---- a quotient whose divisions are all exact, times the divisor
pub quotient-times : (n : ℕ) (num d : ℕ → ℤ) → ((m : ℕ) → m ≤ n → rem_z (Curve.quotient_dividend plain num d m) (d 0) ≡ pos 0) →
    CurvesAgree n (Curve.product plain (Curve.quotient plain num d) d) num
quotient-times n num d h m l = product-comm (Curve.quotient plain num d) d m ∙ exact-product n num d h m l

pub surface-quotient-times : (N : ℕ) (num d : ℕ → ℕ → ℤ) → ((m n : ℕ) → m + n ≤ N → rem_z (Surface.quotient_dividend plain num d m n) (d 0 0) ≡ pos 0) →
    SurfacesAgree N (Surface.product plain (Surface.quotient plain num d) d) num
surface-quotient-times N num d h m n l = surface-product-comm (Surface.quotient plain num d) d m n ∙ surface-exact-product N num d h m n l

-- ---- a field of d variables along the curve with the coordinates c
module _ (d : ℕ) (c : ℕ → ℕ → ℤ) where
  abbrev pub along-curve : Jet d → ℕ → ℤ
  along-curve s = field_derivatives (regular plain) d c (entry_of (jets d) s)

  same-carry : (s : Jet d) → along-curve s ≡ carry (jets d) c s
  same-carry s = fun_ext (carry-is (jets d) c s)

  pub field-sum : (a b : Jet d) (n : ℕ) → along-curve (plus d a b) n ≡ Curve.sum (regular plain) (along-curve a) (along-curve b) n
  unfolding ◌⊕◌
  field-sum a b n =
      carry-is (jets d) c (plus d a b) n ∙ ap (λ x. x n) (carry-plus (jets d) (algebra d) c a b)
      ∙ ap₂ ◌⊕◌ (sym (carry-is (jets d) c a n)) (sym (carry-is (jets d) c b n))

  pub field-difference : (a b : Jet d) (n : ℕ) → along-curve (plus d a (minus d b)) n ≡ Curve.difference (regular plain) (along-curve a) (along-curve b) n
  unfolding ◌⊕◌ neg
  field-difference a b n =
      field-sum a (minus d b) n
      ∙ ap (λ x. along-curve a n ⊕ x) (carry-is (jets d) c (minus d b) n ∙ carry-minus (jets d) (algebra d) c b n ∙ ap neg (sym (carry-is (jets d) c b n)))

  pub field-product : (a b : Jet d) (n : ℕ) → along-curve (times d a b) n ≡ Curve.product plain (along-curve a) (along-curve b) n
  field-product a b n =
      carry-is (jets d) c (times d a b) n ∙ ap (λ x. x n) (carry-times (jets d) (algebra d) c a b ∙ sym (curve_mul-is (carry (jets d) c a) (carry (jets d) c b)))
      ∙ ap₂ (λ (x y : ℕ → ℤ). curve_mul x y n) (sym (same-carry a)) (sym (same-carry b)) ∙ sym (curve-product (along-curve a) (along-curve b) n)

  -- the chain rule: the next order is the sum, over the variables, of the coordinate's derivative times the partial derivative carried
  pub field-chain : (s : Jet d) (n : ℕ) → along-curve s (suc n) ≡ sum d (λ k. Curve.product plain (Curve.derivative (c k)) (along-curve (derive d k s)) n)
  field-chain s n =
      carry-is (jets d) c s (suc n) ∙ chain (jets d) c (algebra d).commute s n
      ∙ ap (sum d) (fun_ext (λ k.
      ap (λ (x : ℕ → ℤ). x n) (sym (curve_mul-is (λ i. c k (suc i)) (carry (jets d) c (derive d k s))))
      ∙ ap (λ (x : ℕ → ℤ). curve_mul (λ i. c k (suc i)) x n) (sym (same-carry (derive d k s)))
      ∙ sym (curve-product (λ i. c k (suc i)) (along-curve (derive d k s)) n)))

  pub field-upto : (n : ℕ) (s t : Jet d) → Same d n s t → CurvesAgree n (along-curve s) (along-curve t)
  field-upto n s t h =
      field_derivatives-upto (regular plain) n d (entry_of (jets d) s) (entry_of (jets d) t) (λ k i l. refl)
      (λ l mask k. same_entries d n s t h (digits d l mask) (subst (λ x. x ≤ n) (sym (digits-length d l mask)) k))

  -- num = q · den up to the order n: then every division of the carried jets is exact, and their quotient is q carried
  module _ (n : ℕ) (num q den : Jet d) (h : Same d n num (times d q den)) (z : ¬ (value d den ≡ pos 0)) where
    factor : CurvesAgree n (along-curve num) (Curve.product plain (along-curve den) (along-curve q))
    factor m l = field-upto n num (times d q den) h m l ∙ field-product q den m ∙ product-comm (along-curve q) (along-curve den) m

    pub field-quotient : CurvesAgree n (Curve.quotient plain (along-curve num) (along-curve den)) (along-curve q)
    unfolding along
    field-quotient = quotient-factor n (along-curve num) (along-curve den) (along-curve q) factor z

    pub field-dividend : (m : ℕ) → m ≤ n → Curve.quotient_dividend plain (along-curve num) (along-curve den) m ≡ along-curve q m *ℤ along-curve den 0
    unfolding along
    field-dividend = quotient-dividend-factor n (along-curve num) (along-curve den) (along-curve q) factor z

    pub field-remainder : (m : ℕ) → m ≤ n → rem_z (Curve.quotient_dividend plain (along-curve num) (along-curve den) m) (along-curve den 0) ≡ pos 0
    unfolding ◌⊗◌
    field-remainder m l = ap (λ x. rem_z x (along-curve den 0)) (field-dividend m l) ∙ rem-exact (along-curve q m) (along-curve den 0)

-- ---- a surface along the curve (u, v)
module _ (u v : ℕ → ℤ) where
  abbrev pub carried : (ℕ → ℕ → ℤ) → ℕ → ℤ
  carried s = composite_derivatives (regular plain) u v s

  as-field : (s : ℕ → ℕ → ℤ) (n : ℕ) → carried s n ≡ along-curve 2 (coordinates u v) s n
  as-field s n = surface-is u v s n ∙ sym (carry-is (jets 2) (coordinates u v) s n)

  as_fields : (s : ℕ → ℕ → ℤ) → carried s ≡ along-curve 2 (coordinates u v) s
  as_fields s = fun_ext (as-field s)

  pub carry-sum : (a b : ℕ → ℕ → ℤ) (n : ℕ) → carried (Surface.sum (regular plain) a b) n ≡ Curve.sum (regular plain) (carried a) (carried b) n
  unfolding ◌⊕◌
  carry-sum a b n =
      as-field (plus 2 a b) n ∙ field-sum 2 (coordinates u v) a b n
      ∙ ap₂ (λ (x y : ℕ → ℤ). Curve.sum (regular plain) x y n) (sym (as_fields a)) (sym (as_fields b))

  pub carry-difference : (a b : ℕ → ℕ → ℤ) (n : ℕ) → carried (Surface.difference (regular plain) a b) n ≡ Curve.difference (regular plain) (carried a) (carried b) n
  unfolding ◌⊕◌ neg
  carry-difference a b n =
      as-field (plus 2 a (minus 2 b)) n ∙ field-difference 2 (coordinates u v) a b n
      ∙ ap₂ (λ (x y : ℕ → ℤ). Curve.difference (regular plain) x y n) (sym (as_fields a)) (sym (as_fields b))

  pub carry-product : (a b : ℕ → ℕ → ℤ) (n : ℕ) → carried (Surface.product plain a b) n ≡ Curve.product plain (carried a) (carried b) n
  carry-product a b n =
      ap (λ (s : ℕ → ℕ → ℤ). carried s n) (fun_ext (λ i. fun_ext (surface-product a b i)) ∙ surface-times a b)
      ∙ as-field (times 2 a b) n ∙ field-product 2 (coordinates u v) a b n
      ∙ ap₂ (λ (x y : ℕ → ℤ). Curve.product plain x y n) (sym (as_fields a)) (sym (as_fields b))

  pub carry-upto : (n : ℕ) {s t : ℕ → ℕ → ℤ} → SurfacesAgree n s t → CurvesAgree n (carried s) (carried t)
  carry-upto n h = composite_derivatives-upto (regular plain) n (λ i l. refl) (λ i l. refl) h

  -- num = q · den up to the order N: then every division of the carried jets is exact, and their quotient is q carried
  module _ (N : ℕ) (num q den : ℕ → ℕ → ℤ) (h : SurfacesAgree N num (Surface.product plain q den)) (z : ¬ (den 0 0 ≡ pos 0)) where
    surface-factor : CurvesAgree N (carried num) (Curve.product plain (carried den) (carried q))
    surface-factor m l = carry-upto N h m l ∙ carry-product q den m ∙ product-comm (carried q) (carried den) m

    pub carry-quotient : CurvesAgree N (Curve.quotient plain (carried num) (carried den)) (carried q)
    unfolding ones
    carry-quotient = quotient-factor N (carried num) (carried den) (carried q) surface-factor z

    pub carry-dividend : (m : ℕ) → m ≤ N → Curve.quotient_dividend plain (carried num) (carried den) m ≡ carried q m *ℤ carried den 0
    unfolding ones
    carry-dividend = quotient-dividend-factor N (carried num) (carried den) (carried q) surface-factor z

    pub carry-remainder : (m : ℕ) → m ≤ N → rem_z (Curve.quotient_dividend plain (carried num) (carried den) m) (carried den 0) ≡ pos 0
    unfolding ◌⊗◌
    carry-remainder m l = ap (λ x. rem_z x (carried den 0)) (carry-dividend m l) ∙ rem-exact (carried q m) (carried den 0)

  -- a quotient of surfaces, every division of which is exact: it is carried to the quotient of the carried, every division of which is exact
  module _ (N : ℕ) (num den : ℕ → ℕ → ℤ) (z : ¬ (den 0 0 ≡ pos 0))
      (h : (m n : ℕ) → m + n ≤ N → rem_z (Surface.quotient_dividend plain num den m n) (den 0 0) ≡ pos 0) where
    abbrev quot : ℕ → ℕ → ℤ
    quot = Surface.quotient plain num den

    quot-times-den : SurfacesAgree N num (Surface.product plain quot den)
    quot-times-den m n l = sym (surface-quotient-times N num den h m n l)

    pub exact-carry-quotient : CurvesAgree N (Curve.quotient plain (carried num) (carried den)) (carried quot)
    exact-carry-quotient = carry-quotient N num quot den quot-times-den z

    pub exact-carry-remainder : (m : ℕ) → m ≤ N → rem_z (Curve.quotient_dividend plain (carried num) (carried den) m) (carried den 0) ≡ pos 0
    exact-carry-remainder = carry-remainder N num quot den quot-times-den z
