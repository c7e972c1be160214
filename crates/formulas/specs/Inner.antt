-- What the loops share: each entry of an operation, from the jets and the entries before it. Assumes nothing.
use Rattle.std.specs.Prelude.{ℕ, Float}
use Rattle.calculus.specs.declared.Operation.{Operation}
use Rattle.calculus.specs.declared.Operation.TheVariants.{Sum, Difference, Product, Quotient}
use Rattle.calculus.specs.Kind.{regular}
use Rattle.calculus.specs.Curve
use Rattle.calculus.specs.Surface
use Rattle.calculus.specs.Rational.{rational_entry, surface_rational_entry}
use Rattle.formulas.specs.Real.{real}

abbrev pub curve_formula : Operation → (ℕ → Float) → (ℕ → Float) → (ℕ → Float) → ℕ → Float
curve_formula Sum x y q m = Curve.sum (regular real) x y m
curve_formula Difference x y q m = Curve.difference (regular real) x y m
curve_formula Product x y q m = Curve.product real x y m
curve_formula Quotient x y q m = rational_entry (regular real) real.over x y q m

abbrev pub surface_formula : Operation → (ℕ → ℕ → Float) → (ℕ → ℕ → Float) → (ℕ → ℕ → Float) → ℕ → ℕ → Float
surface_formula Sum x y q m n = Surface.sum (regular real) x y m n
surface_formula Difference x y q m n = Surface.difference (regular real) x y m n
surface_formula Product x y q m n = Surface.product real x y m n
surface_formula Quotient x y q m n = surface_rational_entry (regular real) real.over x y q m n
