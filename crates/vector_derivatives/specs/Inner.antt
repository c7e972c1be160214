-- What the contracts of private functions cite: what the formulas answer, and which of them divides. Assumes nothing.
use Rattle.std.specs.Prelude.{Bool, false, cond, ℕ, replicate, Float, Result, Err}
use Rattle.refusals.specs.declared.Refusal.{Refusal}
use Rattle.refusals.specs.declared.Refusal.TheVariants.{DivisionByZero}
use Rattle.calculus.specs.JetKind.{returned}
use Rattle.ieee_vectors.specs.declared.Vector3.{Vector3}
use Rattle.ieee_vectors.specs.Vectors.{positive_zero}
use Rattle.formulas.specs.Real.{is_zero}
use Rattle.formulas.specs.Numbers.{curve_numbers, surface_numbers}
use Rattle.vector_formulas.specs.declared.VectorFormula.{VectorFormula}
use Rattle.vector_formulas.specs.declared.VectorFormula.TheVariants as vector
use Rattle.vector_formulas.specs.Formulas.{vectors_by}
use Rattle.vector_surface_formulas.specs.Formulas.{vector_surface_by}
use Rattle.vector_derivatives.specs.declared.VectorCurveDerivatives.{VectorCurveDerivatives}
use Rattle.vector_derivatives.specs.declared.VectorSurfaceDerivatives.{VectorSurfaceDerivatives}
use Rattle.vector_derivatives.specs.Answer.{vector_curves, vector_surfaces}

-- it divides by y, which is zero
abbrev pub vector_division_by_zero : VectorFormula → Float → Bool
vector_division_by_zero vector.Sum y = false
vector_division_by_zero vector.Difference y = false
vector_division_by_zero vector.Cross y = false
vector_division_by_zero vector.Scaled y = false
vector_division_by_zero vector.Rational y = is_zero y

-- the answers by these formulas: no floats beside two jets of vectors, and no second jet of vectors beside floats
abbrev pub by_vector_entries : VectorFormula → (ℕ → Vector3) → (ℕ → Vector3) → ℕ → Result VectorCurveDerivatives Refusal
by_vector_entries f x y n = returned vector_curves n (vectors_by f x y (curve_numbers (replicate 21 positive_zero)))

abbrev pub by_weighted_entries : VectorFormula → (ℕ → Vector3) → (ℕ → Float) → ℕ → Result VectorCurveDerivatives Refusal
by_weighted_entries f x w n = cond (vector_division_by_zero f (w 0)) (Err DivisionByZero) (returned vector_curves n (vectors_by f x x w))

abbrev pub by_vector_surface_entries : VectorFormula → (ℕ → ℕ → Vector3) → (ℕ → ℕ → Vector3) → ℕ → Result VectorSurfaceDerivatives Refusal
by_vector_surface_entries f x y n = returned vector_surfaces n (vector_surface_by f x y (surface_numbers (replicate 231 positive_zero)))

abbrev pub by_surface_weighted_entries : VectorFormula → (ℕ → ℕ → Vector3) → (ℕ → ℕ → Float) → ℕ → Result VectorSurfaceDerivatives Refusal
by_surface_weighted_entries f x w n = cond (vector_division_by_zero f (w 0 0)) (Err DivisionByZero) (returned vector_surfaces n (vector_surface_by f x x w))
