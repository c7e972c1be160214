-- The four operations on two jets, with their numbers, over any kind of number: on the derivatives of curves, and of surfaces. Assumes nothing.
use Rattle.std.specs.Prelude.{cond, ℕ, eqb, Result, Ok, Err}
use Rattle.refusals.specs.declared.Refusal.{Refusal}
use Rattle.refusals.specs.declared.Refusal.TheVariants.{NoRecipe}
use Rattle.calculus.specs.Kind.{Kind, regular}
use Rattle.calculus.specs.Curve
use Rattle.calculus.specs.Surface
use Rattle.calculus.specs.declared.Operation.{Operation}
use Rattle.calculus.specs.declared.Operation.TheVariants.{Sum, Difference, Product, Quotient}

-- the operation of a number, as a recipe's lists name it; another number is in no recipe
abbrev pub operation_of : ℕ → Result Operation Refusal
operation_of n = cond (eqb n 0) (Ok Sum) (cond (eqb n 1) (Ok Difference) (cond (eqb n 2) (Ok Product) (cond (eqb n 3) (Ok Quotient) (Err NoRecipe))))

module _ {A : Type 0} (K : Kind A) where
  abbrev pub curve_operation : Operation → (ℕ → A) → (ℕ → A) → ℕ → A
  curve_operation Sum = Curve.sum (regular K)
  curve_operation Difference = Curve.difference (regular K)
  curve_operation Product = Curve.product K
  curve_operation Quotient = Curve.quotient K

  abbrev pub surface_operation : Operation → (ℕ → ℕ → A) → (ℕ → ℕ → A) → ℕ → ℕ → A
  surface_operation Sum = Surface.sum (regular K)
  surface_operation Difference = Surface.difference (regular K)
  surface_operation Product = Surface.product K
  surface_operation Quotient = Surface.quotient K
