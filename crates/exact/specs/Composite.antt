-- The derivatives of a surface along a curve in its parameters, from jets of exact numbers: Faà di Bruno's formula (document 01's carry). The
-- order asked is at most the surface's and the curve's. Assumes nothing.
use Rattle.std.specs.Prelude.{ℕ, Result, Ok}
use Rattle.refusals.specs.declared.Refusal.{Refusal}
use Rattle.whole.specs.Checked.{Whole}
use Rattle.calculus.specs.Kind.{regular}
use Rattle.calculus.specs.Carry.{composite_derivative, composite_derivatives}
use Rattle.calculus.specs.JetKind.{on_two_at}
use Rattle.exact_formulas.specs.Kinds.{checked}
use Rattle.exact.specs.declared.SurfaceDerivatives.{SurfaceDerivatives}
use Rattle.exact.specs.declared.ParameterCurve.{ParameterCurve}
use Rattle.exact.specs.declared.CurveDerivatives.{CurveDerivatives}
use Rattle.exact.specs.Answer.{surfaces, parameters, curve_answer}

-- one order, which is zero at order 0
abbrev pub along_curve_at : SurfaceDerivatives → ParameterCurve → ℕ → Whole
along_curve_at a c n =
    on_two_at surfaces parameters
    (λ s w. composite_derivative (regular checked) (λ k. Ok (w.0 k)) (λ k. Ok (w.1 k)) (λ i j. Ok (s i j)) n) a c n

-- all orders up to n, with the surface's entry [0][0] at order 0
abbrev pub along_curve : SurfaceDerivatives → ParameterCurve → ℕ → Result CurveDerivatives Refusal
along_curve a c n =
    on_two_at surfaces parameters
    (λ s w. curve_answer (composite_derivatives (regular checked) (λ k. Ok (w.0 k)) (λ k. Ok (w.1 k)) (λ i j. Ok (s i j))) n) a c n
