-- What carrying a surface of floats along a curve answers, at the order asked. Assumes nothing.
use Rattle.std.specs.Prelude.{ℕ, Float, Result}
use Rattle.refusals.specs.declared.Refusal.{Refusal}
use Rattle.vectors.specs.Answers.{returned as returned_float}
use Rattle.calculus.specs.Kind.{regular}
use Rattle.calculus.specs.Carry.{composite_derivative, composite_derivatives}
use Rattle.calculus.specs.JetKind.{returned, on_two_at}
use Rattle.formulas.specs.Real.{real}
use Rattle.derivatives.specs.declared.CurveDerivatives.{CurveDerivatives}
use Rattle.derivatives.specs.declared.SurfaceDerivatives.{SurfaceDerivatives}
use Rattle.derivatives.specs.declared.ParameterCurve.{ParameterCurve}
use Rattle.derivatives.specs.Answer.{curves, surfaces, parameters}

abbrev pub along_curve_at : SurfaceDerivatives → ParameterCurve → ℕ → Result Float Refusal
along_curve_at a c n = on_two_at surfaces parameters (λ s w. returned_float (composite_derivative (regular real) w.0 w.1 s n)) a c n

abbrev pub along_curve : SurfaceDerivatives → ParameterCurve → ℕ → Result CurveDerivatives Refusal
along_curve a c n = on_two_at surfaces parameters (λ s w. returned curves n (composite_derivatives (regular real) w.0 w.1 s)) a c n
