-- The answers of each kind of exact jet by names of their own, as the contracts of private functions and proofs cite them. Assumes nothing.
use Rattle.std.specs.Prelude.{ℕ, ℤ, Result}
use Rattle.refusals.specs.declared.Refusal.{Refusal}
use Rattle.calculus.specs.JetKind.{answered}
use Rattle.exact.specs.declared.CurveDerivatives.{CurveDerivatives}
use Rattle.exact.specs.declared.SurfaceDerivatives.{SurfaceDerivatives}
use Rattle.exact.specs.Answer.{curves, surfaces}

abbrev pub answered_curve : ℕ → (ℕ → ℤ) → Result CurveDerivatives Refusal
answered_curve = answered curves

abbrev pub answered_surface : ℕ → (ℕ → ℕ → ℤ) → Result SurfaceDerivatives Refusal
answered_surface = answered surfaces
