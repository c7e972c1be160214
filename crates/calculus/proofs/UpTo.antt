-- Jets that agree up to an order give results that agree up to it: the relational laws at equality. Assumes nothing.
use Rattle.std.proofs.Common.{◌≡◌, ap₂, List, ℕ, suc, ◌+◌, ◌≤◌, length}
use Rattle.calculus.specs.Kind.{Kind, Module}
use Rattle.calculus.specs.Curve
use Rattle.calculus.specs.Surface
use Rattle.calculus.specs.Carry.{digits, field_derivatives, composite_derivative, composite_derivatives}
use Rattle.calculus.proofs.Related.{same, same_module}
use Rattle.calculus.proofs.Alike.{derivative-alike, derivative_u-alike, derivative_v-alike, sum_alike, difference-alike, surface-sum-alike, surface-difference-alike, product_by-alike, surface-product_by-alike, product-alike, quotient-alike, surface-product-alike, surface-quotient-alike}
use Rattle.calculus.proofs.CarryAlike.{field_derivatives-alike, composite_derivative-alike, composite_derivatives-alike}

abbrev pub CurvesAgree : {A : Type 0} → ℕ → (ℕ → A) → (ℕ → A) → Type 0
CurvesAgree n a b = (i : ℕ) → i ≤ n → a i ≡ b i

abbrev pub SurfacesAgree : {A : Type 0} → ℕ → (ℕ → ℕ → A) → (ℕ → ℕ → A) → Type 0
SurfacesAgree n a b = (i j : ℕ) → i + j ≤ n → a i j ≡ b i j

abbrev Eq : {A : Type 0} → A → A → Type 0
Eq a b = a ≡ b

module _ {A : Type 0} (n : ℕ) where
  pub derivative-upto : {a b : ℕ → A} → CurvesAgree (suc n) a b → CurvesAgree n (Curve.derivative a) (Curve.derivative b)
  derivative-upto = derivative-alike Eq n

  pub derivative_u-upto : {a b : ℕ → ℕ → A} → SurfacesAgree (suc n) a b → SurfacesAgree n (Surface.derivative_u a) (Surface.derivative_u b)
  derivative_u-upto = derivative_u-alike Eq n

  pub derivative_v-upto : {a b : ℕ → ℕ → A} → SurfacesAgree (suc n) a b → SurfacesAgree n (Surface.derivative_v a) (Surface.derivative_v b)
  derivative_v-upto = derivative_v-alike Eq n

module _ {S A : Type 0} (M : Module S A) (n : ℕ) where
  module _ {a b c d : ℕ → A} (p : CurvesAgree n a b) (q : CurvesAgree n c d) where
    pub sum-upto : CurvesAgree n (Curve.sum M a c) (Curve.sum M b d)
    sum-upto = sum_alike Eq Eq M M (same_module M) n p q

    pub difference-upto : CurvesAgree n (Curve.difference M a c) (Curve.difference M b d)
    difference-upto = difference-alike Eq Eq M M (same_module M) n p q

  module _ {a b c d : ℕ → ℕ → A} (p : SurfacesAgree n a b) (q : SurfacesAgree n c d) where
    pub surface-sum-upto : SurfacesAgree n (Surface.sum M a c) (Surface.sum M b d)
    surface-sum-upto = surface-sum-alike Eq Eq M M (same_module M) n p q

    pub surface-difference-upto : SurfacesAgree n (Surface.difference M a c) (Surface.difference M b d)
    surface-difference-upto = surface-difference-alike Eq Eq M M (same_module M) n p q

  module _ {B C : Type 0} (f : B → C → A) where
    pub product_by-upto : {a b : ℕ → B} {c d : ℕ → C} → CurvesAgree n a b → CurvesAgree n c d → CurvesAgree n (Curve.product_by M f a c) (Curve.product_by M f b d)
    product_by-upto {a} {b} {c} {d} = product_by-alike Eq Eq M M (same_module M) n Eq Eq f f (λ w x y z p q. ap₂ f p q) a c b d

    pub surface-product_by-upto : {a b : ℕ → ℕ → B} {c d : ℕ → ℕ → C} → SurfacesAgree n a b → SurfacesAgree n c d →
        SurfacesAgree n (Surface.product_by M f a c) (Surface.product_by M f b d)
    surface-product_by-upto {a} {b} {c} {d} = surface-product_by-alike Eq Eq M M (same_module M) n Eq Eq f f (λ w x y z p q. ap₂ f p q) a c b d

  pub field_derivatives-upto : (k : ℕ) {b c : ℕ → ℕ → S} (e f : List ℕ → A) → ((i : ℕ) → CurvesAgree n (b i) (c i)) →
      ((l : List ℕ) (mask : ℕ) → length l ≤ n → e (digits k l mask) ≡ f (digits k l mask)) →
      CurvesAgree n (field_derivatives M k b e) (field_derivatives M k c f)
  field_derivatives-upto k {b} {c} e f = field_derivatives-alike Eq Eq M M (same_module M) n k b c e f

  module _ {u v x y : ℕ → S} {s t : ℕ → ℕ → A} (p : CurvesAgree n u x) (q : CurvesAgree n v y) (h : SurfacesAgree n s t) where
    pub composite_derivative-upto : CurvesAgree n (composite_derivative M u v s) (composite_derivative M x y t)
    composite_derivative-upto = composite_derivative-alike Eq Eq M M (same_module M) n u v x y s t p q h

    pub composite_derivatives-upto : CurvesAgree n (composite_derivatives M u v s) (composite_derivatives M x y t)
    composite_derivatives-upto = composite_derivatives-alike Eq Eq M M (same_module M) n u v x y s t p q h

module _ {A : Type 0} (K : Kind A) (n : ℕ) where
  module _ {a b c d : ℕ → A} (p : CurvesAgree n a b) (q : CurvesAgree n c d) where
    pub product-upto : CurvesAgree n (Curve.product K a c) (Curve.product K b d)
    product-upto = product-alike Eq K K (same K) n a c b d p q

    pub quotient-upto : CurvesAgree n (Curve.quotient K a c) (Curve.quotient K b d)
    quotient-upto = quotient-alike Eq K K (same K) n a c b d p q

  module _ {a b c d : ℕ → ℕ → A} (p : SurfacesAgree n a b) (q : SurfacesAgree n c d) where
    pub surface-product-upto : SurfacesAgree n (Surface.product K a c) (Surface.product K b d)
    surface-product-upto = surface-product-alike Eq K K (same K) n a c b d p q

    pub surface-quotient-upto : SurfacesAgree n (Surface.quotient K a c) (Surface.quotient K b d)
    surface-quotient-upto = surface-quotient-alike Eq K K (same K) n a c b d p q
