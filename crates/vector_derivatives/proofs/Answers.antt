-- Arrays of vectors that have been computed, as the jets that are answered. Assumes nothing.
use Rattle.std.proofs.Common.{◌≡◌, Bool, cond, List, Float, ℕ, suc, ◌≤◌, ◌<◌, min, Result, Ok, Err, sym, ap, ◌∙◌, arith, lt-ltb, le-ltb}
use Rattle.std.specs.Float.{nan}
use Rattle.refusals.specs.declared.Refusal.{Refusal}
use Rattle.refusals.specs.declared.Refusal.TheVariants.{OrderAbove20, AnswerNotFinite}
use Rattle.ieee_vectors.specs.declared.Vector3.{Vector3}
use Rattle.ieee_vectors.specs.Vectors.{positive_zero}
use Rattle.calculus.specs.Graded.{triangle, graded}
use Rattle.calculus.specs.Array.{filled}
use Rattle.calculus.specs.JetKind.{returned, returned_jet}
use Rattle.calculus.proofs.LoopCut.{uncut}
use Rattle.calculus.proofs.LoopFilling.{filled_at}
use Rattle.calculus.proofs.Graded.{room-231}
use Rattle.calculus.proofs.Tested.{returned-as}
use Rattle.formulas.specs.Numbers.{curve_numbers}
use Rattle.vector_formulas.specs.Vector.{vector_numbers, vector_surface_numbers, vector_array, vector_surface_array, finite_vector_curve, finite_vector_surface}
use Rattle.vector_formulas.proofs.Vectors.{surface-finite, filled-finite}
use Rattle.vector_derivatives.specs.declared.VectorCurveDerivatives.{VectorCurveDerivatives}
use Rattle.vector_derivatives.specs.declared.VectorSurfaceDerivatives.{VectorSurfaceDerivatives}
use Rattle.vector_derivatives.specs.Answer.{vector_curves, vector_surfaces}

-- ---- the jet of an order n, of a formula's array
abbrev curve_of : ℕ → List Float → Result VectorCurveDerivatives Refusal
curve_of n x = Ok (record { order = n; entries = x })

abbrev surface_of : ℕ → List Float → Result VectorSurfaceDerivatives Refusal
surface_of n x = Ok (record { order = n; entries = x })

module _ (n : ℕ) (l : n ≤ 20) {r : List Float} where
  pub vectors-returned : (f : ℕ → Vector3) → r ≡ vector_array f (min n 20) → returned_jet vector_curves (record { order = n; entries = r }) ≡ returned vector_curves n f
  vectors-returned f e =
      ap (λ (t : Bool). cond t (Err OrderAbove20) (cond (finite_vector_curve (vector_numbers r) n) (curve_of n r) (Err AnswerNotFinite))) (le-ltb 20 n l)
      ∙ returned-as (λ x. finite_vector_curve (vector_numbers x) n) (curve_of n) (Err AnswerNotFinite) (e ∙ uncut (vector_array f) l) (filled-finite 21 f (suc n) (omega arith))

  pub surface-returned : (s : ℕ → ℕ → Vector3) → r ≡ vector_surface_array s (min n 20) → returned_jet vector_surfaces (record { order = n; entries = r }) ≡ returned vector_surfaces n s
  surface-returned s e =
      ap (λ (t : Bool). cond t (Err OrderAbove20) (cond (finite_vector_surface (vector_surface_numbers r) n) (surface_of n r) (Err AnswerNotFinite))) (le-ltb 20 n l)
      ∙ returned-as (λ x. finite_vector_surface (vector_surface_numbers x) n) (surface_of n) (Err AnswerNotFinite) (e ∙ uncut (vector_surface_array s) l)
      (sym (surface-finite (vector_surface_array s n) n) ∙ filled-finite 231 (graded s) (triangle (suc n)) (room-231 n l))

-- ---- the first entry of an array of floats
pub first_entry : (w : ℕ) (f : ℕ → Float) (n : ℕ) {r : List Float} → 0 < w → r ≡ filled w positive_zero f (suc n) → curve_numbers r 0 ≡ f 0
first_entry w f n h e =
    ap (λ (x : List Float). curve_numbers x 0) e ∙ filled_at w nan positive_zero f (suc n) 0 h
    ∙ ap (λ (b : Bool). cond b (f 0) positive_zero) (lt-ltb 0 (suc n) (omega arith))
