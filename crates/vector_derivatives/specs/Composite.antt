-- What carrying a surface of vectors along a curve answers, at the order asked. Assumes nothing.
use Rattle.std.specs.Prelude.{ℕ, Result}
use Rattle.refusals.specs.declared.Refusal.{Refusal}
use Rattle.vectors.specs.Answers.{returned_vector}
use Rattle.calculus.specs.Carry.{composite_derivative, composite_derivatives}
use Rattle.calculus.specs.JetKind.{returned, on_two_at}
use Rattle.ieee_vectors.specs.declared.Vector3.{Vector3}
use Rattle.vector_formulas.specs.Vector.{vectors}
use Rattle.derivatives.specs.declared.ParameterCurve.{ParameterCurve}
use Rattle.derivatives.specs.Answer.{parameters}
use Rattle.vector_derivatives.specs.declared.VectorCurveDerivatives.{VectorCurveDerivatives}
use Rattle.vector_derivatives.specs.declared.VectorSurfaceDerivatives.{VectorSurfaceDerivatives}
use Rattle.vector_derivatives.specs.Answer.{vector_curves, vector_surfaces}

abbrev pub vector_along_curve_at : VectorSurfaceDerivatives → ParameterCurve → ℕ → Result Vector3 Refusal
vector_along_curve_at a c n = on_two_at vector_surfaces parameters (λ s w. returned_vector (composite_derivative vectors w.0 w.1 s n)) a c n

abbrev pub vector_along_curve : VectorSurfaceDerivatives → ParameterCurve → ℕ → Result VectorCurveDerivatives Refusal
vector_along_curve a c n = on_two_at vector_surfaces parameters (λ s w. returned vector_curves n (composite_derivatives vectors w.0 w.1 s)) a c n
