-- The formulas that the loops share: each entry of a jet from two jets and the entries before it. Assumes nothing.
use Rattle.std.specs.Prelude.{ℕ}
use Rattle.whole.specs.Checked.{Whole}
use Rattle.calculus.specs.Kind.{regular}
use Rattle.calculus.specs.Curve
use Rattle.calculus.specs.Surface
use Rattle.calculus.specs.declared.Operation.{Operation}
use Rattle.calculus.specs.declared.Operation.TheVariants.{Sum, Difference, Product, Quotient}
use Rattle.exact_formulas.specs.Kinds.{checked}

abbrev pub curve_formula : Operation → (ℕ → Whole) → (ℕ → Whole) → (ℕ → Whole) → ℕ → Whole
curve_formula Sum a b q m = Curve.sum (regular checked) a b m
curve_formula Difference a b q m = Curve.difference (regular checked) a b m
curve_formula Product a b q m = Curve.product checked a b m
curve_formula Quotient a b q m = Curve.quotient_entry checked a b q m

abbrev pub surface_formula : Operation → (ℕ → ℕ → Whole) → (ℕ → ℕ → Whole) → (ℕ → ℕ → Whole) → ℕ → ℕ → Whole
surface_formula Sum a b q m n = Surface.sum (regular checked) a b m n
surface_formula Difference a b q m n = Surface.difference (regular checked) a b m n
surface_formula Product a b q m n = Surface.product checked a b m n
surface_formula Quotient a b q m n = Surface.quotient_entry checked a b q m n
