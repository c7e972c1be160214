-- The entries that the formulas of the loops form in turn are those of the four operations. Assumes nothing.
use Rattle.std.proofs.Common.{◌≡◌, refl, ℕ}
use Rattle.whole.specs.Checked.{Whole}
use Rattle.calculus.specs.declared.Operation.{Operation}
use Rattle.calculus.specs.declared.Operation.TheVariants.{Sum, Difference, Product, Quotient}
use Rattle.calculus.specs.Operation.{curve_operation, surface_operation}
use Rattle.exact_formulas.specs.Kinds.{checked}
use Rattle.exact_formulas.proofs.Earlier.{curve_rising, surface_rising}

pub curve-operation : (op : Operation) (a b : ℕ → Whole) → curve_rising op a b ≡ curve_operation checked op a b
curve-operation Sum a b = refl
curve-operation Difference a b = refl
curve-operation Product a b = refl
curve-operation Quotient a b = refl

pub surface-operation : (op : Operation) (a b : ℕ → ℕ → Whole) → surface_rising op a b ≡ surface_operation checked op a b
surface-operation Sum a b = refl
surface-operation Difference a b = refl
surface-operation Product a b = refl
surface-operation Quotient a b = refl
