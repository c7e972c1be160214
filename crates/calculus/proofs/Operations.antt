-- What the operations of two kinds of number keep, each of the four operations on jets keeps. Assumes nothing.
use Rattle.std.proofs.Common.{ℕ}
use Rattle.calculus.specs.Kind.{Kind, regular}
use Rattle.calculus.specs.declared.Operation.{Operation}
use Rattle.calculus.specs.declared.Operation.TheVariants.{Sum, Difference, Product, Quotient}
use Rattle.calculus.specs.Operation.{curve_operation, surface_operation}
use Rattle.calculus.proofs.Related.{Related, regulars, CurvesAlike, SurfacesAlike}
use Rattle.calculus.proofs.Alike.{sum_alike, difference-alike, product-alike, quotient-alike, surface-sum-alike, surface-difference-alike, surface-product-alike, surface-quotient-alike}

module _ {A B : Type 0} (R : A → B → Type 0) (K : Kind A) (L : Kind B) (r : Related R K L) (n : ℕ) where
  pub curve-alike : (op : Operation) (a c : ℕ → A) (b d : ℕ → B) → CurvesAlike R n a b → CurvesAlike R n c d →
      CurvesAlike R n (curve_operation K op a c) (curve_operation L op b d)
  curve-alike Sum a c b d p q = sum_alike R R (regular K) (regular L) (regulars r) n p q
  curve-alike Difference a c b d p q = difference-alike R R (regular K) (regular L) (regulars r) n p q
  curve-alike Product a c b d p q = product-alike R K L r n a c b d p q
  curve-alike Quotient a c b d p q = quotient-alike R K L r n a c b d p q

  pub surface-alike : (op : Operation) (a c : ℕ → ℕ → A) (b d : ℕ → ℕ → B) → SurfacesAlike R n a b → SurfacesAlike R n c d →
      SurfacesAlike R n (surface_operation K op a c) (surface_operation L op b d)
  surface-alike Sum a c b d p q = surface-sum-alike R R (regular K) (regular L) (regulars r) n p q
  surface-alike Difference a c b d p q = surface-difference-alike R R (regular K) (regular L) (regulars r) n p q
  surface-alike Product a c b d p q = surface-product-alike R K L r n a c b d p q
  surface-alike Quotient a c b d p q = surface-quotient-alike R K L r n a c b d p q
