-- What the contracts of private functions cite: what the operations answer, and which of them divides. Assumes nothing.
use Rattle.std.specs.Prelude.{Bool, false, cond, ℕ, Float, Result, Err}
use Rattle.refusals.specs.declared.Refusal.{Refusal}
use Rattle.refusals.specs.declared.Refusal.TheVariants.{DivisionByZero}
use Rattle.calculus.specs.declared.Operation.{Operation}
use Rattle.calculus.specs.declared.Operation.TheVariants.{Sum, Difference, Product, Quotient}
use Rattle.calculus.specs.JetKind.{returned}
use Rattle.formulas.specs.Real.{is_zero}
use Rattle.formulas.specs.Operations.{curve_by, surface_by}
use Rattle.derivatives.specs.declared.CurveDerivatives.{CurveDerivatives}
use Rattle.derivatives.specs.declared.SurfaceDerivatives.{SurfaceDerivatives}
use Rattle.derivatives.specs.Answer.{curves, surfaces}

-- it divides by y, which is zero
abbrev pub division_by_zero : Operation → Float → Bool
division_by_zero Sum y = false
division_by_zero Difference y = false
division_by_zero Product y = false
division_by_zero Quotient y = is_zero y

abbrev pub by_curve_entries : Operation → (ℕ → Float) → (ℕ → Float) → ℕ → Result CurveDerivatives Refusal
by_curve_entries f x y n = cond (division_by_zero f (y 0)) (Err DivisionByZero) (returned curves n (curve_by f x y))

abbrev pub by_surface_entries : Operation → (ℕ → ℕ → Float) → (ℕ → ℕ → Float) → ℕ → Result SurfaceDerivatives Refusal
by_surface_entries f x y n = cond (division_by_zero f (y 0 0)) (Err DivisionByZero) (returned surfaces n (surface_by f x y))
