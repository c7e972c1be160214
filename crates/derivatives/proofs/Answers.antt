-- Arrays of floats that have been computed, as the jets that are answered. Assumes nothing.
use Rattle.std.proofs.Common.{◌≡◌, Bool, cond, List, Float, ℕ, suc, ◌≤◌, min, Result, Ok, Err, sym, ap, ◌∙◌, arith, lt-ltb, le-ltb}
use Rattle.std.specs.Float.{nan}
use Rattle.std.specs.Float.Ieee.Scale.{finite}
use Rattle.refusals.specs.declared.Refusal.{Refusal}
use Rattle.refusals.specs.declared.Refusal.TheVariants.{OrderAbove20, AnswerNotFinite}
use Rattle.calculus.specs.Graded.{triangle, graded}
use Rattle.calculus.specs.Array.{filled, curve_array, surface_array}
use Rattle.calculus.specs.JetKind.{returned, returned_jet}
use Rattle.calculus.proofs.LoopCut.{uncut}
use Rattle.calculus.proofs.LoopFilling.{filled_at}
use Rattle.calculus.proofs.Graded.{room-231}
use Rattle.calculus.proofs.Tested.{returned-as}
use Rattle.ieee_vectors.specs.Vectors.{positive_zero}
use Rattle.formulas.specs.Numbers.{curve_numbers, surface_numbers, all_finite, finite_curve, finite_surface}
use Rattle.formulas.proofs.Finite.{same, surface-finite}
use Rattle.derivatives.specs.declared.CurveDerivatives.{CurveDerivatives}
use Rattle.derivatives.specs.declared.SurfaceDerivatives.{SurfaceDerivatives}
use Rattle.derivatives.specs.Answer.{curves, surfaces}

-- ---- the array is finite as far as it is filled where its entries are
module _ (w : ℕ) (f : ℕ → Float) (n : ℕ) where
  pub filled-finite : n ≤ w → all_finite (curve_numbers (filled w positive_zero f n)) n ≡ all_finite f n
  filled-finite l =
      same finite (curve_numbers (filled w positive_zero f n)) f n
      (λ k h. filled_at w nan positive_zero f n k (omega arith) ∙ ap (λ (t : Bool). cond t (f k) positive_zero) (lt-ltb k n h))

-- a surface's array
pub array-finite : (f : ℕ → ℕ → Float) (n : ℕ) → n ≤ 20 → finite_surface (surface_numbers (surface_array positive_zero f n)) n ≡ finite_surface f n
array-finite f n l =
    sym (surface-finite (surface_array positive_zero f n) n)
    ∙ filled-finite 231 (graded f) (triangle (suc n)) (room-231 n l)

-- ---- the jet of an order n, of a formula's array
abbrev curve_of : ℕ → List Float → Result CurveDerivatives Refusal
curve_of n x = Ok (record { order = n; entries = x })

abbrev surface_of : ℕ → List Float → Result SurfaceDerivatives Refusal
surface_of n x = Ok (record { order = n; entries = x })

module _ (n : ℕ) (l : n ≤ 20) {r : List Float} where
  pub curve-returned : (f : ℕ → Float) → r ≡ curve_array positive_zero f (min n 20) → returned_jet curves (record { order = n; entries = r }) ≡ returned curves n f
  curve-returned f e =
      ap (λ (t : Bool). cond t (Err OrderAbove20) (cond (finite_curve (curve_numbers r) n) (curve_of n r) (Err AnswerNotFinite))) (le-ltb 20 n l)
      ∙ returned-as (λ x. finite_curve (curve_numbers x) n) (curve_of n) (Err AnswerNotFinite) (e ∙ uncut (curve_array positive_zero f) l) (filled-finite 21 f (suc n) (omega arith))

  pub surface-returned : (s : ℕ → ℕ → Float) → r ≡ surface_array positive_zero s (min n 20) → returned_jet surfaces (record { order = n; entries = r }) ≡ returned surfaces n s
  surface-returned s e =
      ap (λ (t : Bool). cond t (Err OrderAbove20) (cond (finite_surface (surface_numbers r) n) (surface_of n r) (Err AnswerNotFinite))) (le-ltb 20 n l)
      ∙ returned-as (λ x. finite_surface (surface_numbers x) n) (surface_of n) (Err AnswerNotFinite) (e ∙ uncut (surface_array positive_zero s) l) (array-finite s n l)
