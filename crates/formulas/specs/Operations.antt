-- The four operations on two jets of floats. Assumes nothing.
use Rattle.std.specs.Prelude.{ℕ, Float}
use Rattle.calculus.specs.declared.Operation.{Operation}
use Rattle.calculus.specs.declared.Operation.TheVariants.{Sum, Difference, Product, Quotient}
use Rattle.calculus.specs.Kind.{regular}
use Rattle.calculus.specs.Curve
use Rattle.calculus.specs.Surface
use Rattle.calculus.specs.Rational.{rational, surface_rational}
use Rattle.formulas.specs.Real.{real}

abbrev pub curve_by : Operation → (ℕ → Float) → (ℕ → Float) → ℕ → Float
curve_by Sum x y m = Curve.sum (regular real) x y m
curve_by Difference x y m = Curve.difference (regular real) x y m
curve_by Product x y m = Curve.product real x y m
curve_by Quotient x y m = rational (regular real) real.over x y m

abbrev pub surface_by : Operation → (ℕ → ℕ → Float) → (ℕ → ℕ → Float) → ℕ → ℕ → Float
surface_by Sum x y m n = Surface.sum (regular real) x y m n
surface_by Difference x y m n = Surface.difference (regular real) x y m n
surface_by Product x y m n = Surface.product real x y m n
surface_by Quotient x y m n = surface_rational (regular real) real.over x y m n
