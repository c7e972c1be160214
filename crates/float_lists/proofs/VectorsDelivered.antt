-- An answered jet of vectors, or of floats from such, is written whole: as Delivered.antt says it of jets of floats. Assumes nothing.
use Rattle.std.proofs.Common.{◌≡◌, refl, ap, ◌∙◌, subst, true, cond, ◌&&◌, List, ℕ, suc, ◌*◌, ◌-◌, ◌≤◌, zero-add, ltb, length}
use lib.Ieee.{Float}
use Rattle.std.specs.Prelude.{Result, Err}
use Rattle.refusals.specs.declared.Refusal.{Refusal}
use Rattle.refusals.specs.declared.Refusal.TheVariants.{DivisionByZero}
use Rattle.calculus.specs.Graded.{triangle}
use Rattle.calculus.specs.Array.{listed}
use Rattle.calculus.specs.Curve.{derivative}
use Rattle.calculus.specs.Surface.{derivative_by}
use Rattle.calculus.specs.Carry.{composite_derivatives}
use Rattle.calculus.specs.Order.{curve_entries, surface_entries}
use Rattle.calculus.specs.declared.By.{By}
use Rattle.calculus.specs.JetKind.{JetKind, answered, returned, differentiated, by_formula}
use Rattle.calculus.proofs.LoopFilling.{listed_at}
use Rattle.ieee_vectors.specs.declared.Vector3.{Vector3}
use Rattle.ieee_vectors.specs.Finite.{finite_vector}
use Rattle.formulas.specs.Real.{is_zero}
use Rattle.formulas.proofs.Finite.{same}
use Rattle.vector_formulas.specs.Vector.{vectors, flat, finite_vector_curve, finite_vector_surface}
use Rattle.vector_formulas.proofs.Vectors.{nowhere, flat-at}
use Rattle.derivatives.specs.Answer.{curves, surfaces, parameters, by_division}
use Rattle.vector_derivatives.specs.Answer.{threes, vector_curves, vector_surfaces, by_norm}
use Rattle.vector_derivatives.specs.Composite.{vector_along_curve}
use Rattle.vector_derivatives.specs.declared.VectorCurveDerivatives.{VectorCurveDerivatives}
use Rattle.vector_derivatives.specs.declared.VectorSurfaceDerivatives.{VectorSurfaceDerivatives}
use Rattle.given.specs.Lists.{Output, input, output, deliver, over_two, over_two_at, over_one}
use Rattle.given.proofs.Admission.{pair}
use Rattle.given.proofs.Delivered.{by-test, whole, Fit, Read, one-whole}
use Rattle.given.proofs.Answered.{Kept, Made, made-curves, made-surfaces, less-curves, less-surfaces, fit-returned, fit-one, answered-delivered, formula-whole, asked-whole, less-whole}
use Rattle.float_lists.proofs.Finite.{pass-among}
use Rattle.float_lists.proofs.Delivered.{reads-curves, reads-surfaces, curves-made, surfaces-made, division-whole}

-- ---- the kinds of jet of vectors read as they are made
kept : Kept threes
kept = record { at = λ f w k l. flat-at (listed f 0 w) k ∙ listed_at nowhere f 0 w k l ∙ ap f (zero-add k); finite = same finite_vector; among = pass-among finite_vector }

reads-vector-curves : Read vector_curves
reads-vector-curves = record { order = λ n x. refl }

reads-vector-surfaces : Read vector_surfaces
reads-vector-surfaces = record { order = λ n x. refl }

vector-curves-made : Made vector_curves
vector-curves-made = made-curves threes kept vector_curves reads-vector-curves (λ n x. refl) (λ n x. refl) (λ n x. refl)

vector-surfaces-made : Made vector_surfaces
vector-surfaces-made = made-surfaces threes kept vector_surfaces reads-vector-surfaces (λ n x. refl) (λ n x. refl) (λ n x. refl)

-- ---- a jet that is answered goes whole into a list of its length
module _ (n : ℕ) (h : n ≤ 20) (out : List Float) where
  pub vector-curve-delivered : (f : ℕ → Vector3) → finite_vector_curve f n ≡ true → length out ≡ 3 * suc n →
      deliver vector_curves (answered vector_curves n f) out ≡ pair 0 (flat (curve_entries f n))
  vector-curve-delivered f p e = answered-delivered vector_curves vector-curves-made n h f p out e

  pub vector-surface-delivered : (s : ℕ → ℕ → Vector3) → finite_vector_surface s n ≡ true → length out ≡ 3 * triangle (suc n) →
      deliver vector_surfaces (answered vector_surfaces n s) out ≡ pair 0 (flat (surface_entries s n))
  vector-surface-delivered s p e = answered-delivered vector_surfaces vector-surfaces-made n h s p out e

-- ---- formulas on two jets, at the smaller order
module _ (m : ℕ) (a : List Float) (n : ℕ) (b out : List Float) where
  abbrev two : {E J F L C : Type 0} → JetKind Float E J → JetKind Float F L → Output Float C → (J → L → C) → ℕ × List Float
  two K M to op = over_two (input K) (input M) to op m a n b out

  -- of vectors: the sum, the difference, the cross product
  pub vector-curves-whole : (f : (ℕ → Vector3) → (ℕ → Vector3) → ℕ → Vector3) → let op = by_formula vector_curves vector_curves vector_curves f in
      two vector_curves vector_curves (output vector_curves) op ≡ two vector_curves vector_curves (whole vector_curves) op
  vector-curves-whole f = formula-whole vector_curves vector_curves vector_curves vector-curves-made m a n b out reads-vector-curves reads-vector-curves f

  pub vector-surfaces-whole : (f : (ℕ → ℕ → Vector3) → (ℕ → ℕ → Vector3) → ℕ → ℕ → Vector3) → let op = by_formula vector_surfaces vector_surfaces vector_surfaces f in
      two vector_surfaces vector_surfaces (output vector_surfaces) op ≡ two vector_surfaces vector_surfaces (whole vector_surfaces) op
  vector-surfaces-whole f = formula-whole vector_surfaces vector_surfaces vector_surfaces vector-surfaces-made m a n b out reads-vector-surfaces reads-vector-surfaces f

  -- to floats: the dot product
  pub dot-curves-whole : (f : (ℕ → Vector3) → (ℕ → Vector3) → ℕ → Float) → let op = by_formula vector_curves vector_curves curves f in
      two vector_curves vector_curves (output curves) op ≡ two vector_curves vector_curves (whole curves) op
  dot-curves-whole f = formula-whole vector_curves vector_curves curves curves-made m a n b out reads-vector-curves reads-vector-curves f

  pub dot-surfaces-whole : (f : (ℕ → ℕ → Vector3) → (ℕ → ℕ → Vector3) → ℕ → ℕ → Float) → let op = by_formula vector_surfaces vector_surfaces surfaces f in
      two vector_surfaces vector_surfaces (output surfaces) op ≡ two vector_surfaces vector_surfaces (whole surfaces) op
  dot-surfaces-whole f = formula-whole vector_surfaces vector_surfaces surfaces surfaces-made m a n b out reads-vector-surfaces reads-vector-surfaces f

  -- with floats: the product
  pub scaled-curves-whole : (f : (ℕ → Vector3) → (ℕ → Float) → ℕ → Vector3) → let op = by_formula vector_curves curves vector_curves f in
      two vector_curves curves (output vector_curves) op ≡ two vector_curves curves (whole vector_curves) op
  scaled-curves-whole f = formula-whole vector_curves curves vector_curves vector-curves-made m a n b out reads-vector-curves reads-curves f

  pub scaled-surfaces-whole : (f : (ℕ → ℕ → Vector3) → (ℕ → ℕ → Float) → ℕ → ℕ → Vector3) → let op = by_formula vector_surfaces surfaces vector_surfaces f in
      two vector_surfaces surfaces (output vector_surfaces) op ≡ two vector_surfaces surfaces (whole vector_surfaces) op
  scaled-surfaces-whole f = formula-whole vector_surfaces surfaces vector_surfaces vector-surfaces-made m a n b out reads-vector-surfaces reads-surfaces f

  -- and the quotient
  pub divided-curves-whole : (first : (ℕ → Float) → Float) (f : (ℕ → Vector3) → (ℕ → Float) → ℕ → Vector3) → let op = by_division vector_curves curves vector_curves first f in
      two vector_curves curves (output vector_curves) op ≡ two vector_curves curves (whole vector_curves) op
  divided-curves-whole first f = division-whole vector_curves curves vector_curves vector-curves-made reads-vector-curves reads-curves first f m a n b out

  pub divided-surfaces-whole : (first : (ℕ → ℕ → Float) → Float) (f : (ℕ → ℕ → Vector3) → (ℕ → ℕ → Float) → ℕ → ℕ → Vector3) →
      let op = by_division vector_surfaces surfaces vector_surfaces first f in
      two vector_surfaces surfaces (output vector_surfaces) op ≡ two vector_surfaces surfaces (whole vector_surfaces) op
  divided-surfaces-whole first f = division-whole vector_surfaces surfaces vector_surfaces vector-surfaces-made reads-vector-surfaces reads-surfaces first f m a n b out

-- ---- the norm, at the jet's order
norm-whole : {E J G H : Type 0} (K : JetKind Float E J) (R : JetKind Float G H) → Made R → Read K → (first : G → Float) (f : E → G) (n : ℕ) (a out : List Float) →
    over_one (input K) (output R) n (by_norm K R first f) n a out ≡ over_one (input K) (whole R) n (by_norm K R first f) n a out
norm-whole {E = E} {J = J} K R s r first f n a out = one-whole K R r n (by_norm K R first f) n (λ x e. subst (λ (k : ℕ). Fit R k (by_norm K R first f x)) e (fits x)) a out
  where
    worked : (x : E) (k : ℕ) → k ≤ 20 → Fit R k (cond (ltb 0 k && is_zero (first (f x))) (Err DivisionByZero) (returned R k (f x)))
    worked x k h = by-test (Fit R k) (ltb 0 k && is_zero (first (f x))) (Err DivisionByZero) (returned R k (f x)) (λ _. tt) (λ _. fit-returned R s k h (f x))

    fits : (x : J) → Fit R (K.order x) (by_norm K R first f x)
    fits = fit-one K R s (λ x k. cond (ltb 0 k && is_zero (first (f x))) (Err DivisionByZero) (returned R k (f x))) worked

module _ (n : ℕ) (a out : List Float) where
  pub norm-curve-whole : (first : (ℕ → Float) → Float) (f : (ℕ → Vector3) → ℕ → Float) → let op = by_norm vector_curves curves first f in
      over_one (input vector_curves) (output curves) n op n a out ≡ over_one (input vector_curves) (whole curves) n op n a out
  norm-curve-whole first f = norm-whole vector_curves curves curves-made reads-vector-curves first f n a out

  pub norm-surface-whole : (first : (ℕ → ℕ → Float) → Float) (f : (ℕ → ℕ → Vector3) → ℕ → ℕ → Float) → let op = by_norm vector_surfaces surfaces first f in
      over_one (input vector_surfaces) (output surfaces) n op n a out ≡ over_one (input vector_surfaces) (whole surfaces) n op n a out
  norm-surface-whole first f = norm-whole vector_surfaces surfaces surfaces-made reads-vector-surfaces first f n a out

  -- ---- a derivative, of one order less
  abbrev of_curve : Output Float (Result VectorCurveDerivatives Refusal) → ℕ × List Float
  of_curve to = over_one (input vector_curves) to (n - 1) (differentiated vector_curves derivative) n a out

  pub vector-curve-derivative-whole : of_curve (output vector_curves) ≡ of_curve (whole vector_curves)
  vector-curve-derivative-whole =
      less-whole vector_curves reads-vector-curves derivative (less-curves threes kept vector_curves reads-vector-curves (λ n x. refl) (λ n x. refl) (λ n x. refl)) n a out

  module _ (by : By) where
    abbrev of_surface : Output Float (Result VectorSurfaceDerivatives Refusal) → ℕ × List Float
    of_surface to = over_one (input vector_surfaces) to (n - 1) (differentiated vector_surfaces (derivative_by by)) n a out

    pub vector-surface-derivative-whole : of_surface (output vector_surfaces) ≡ of_surface (whole vector_surfaces)
    vector-surface-derivative-whole =
        less-whole vector_surfaces reads-vector-surfaces (derivative_by by)
        (less-surfaces threes kept vector_surfaces reads-vector-surfaces (λ n x. refl) (λ n x. refl) (λ n x. refl) by) n a out

-- ---- the carry, at an order that is asked
module _ (k m : ℕ) (a : List Float) (n : ℕ) (c out : List Float) where
  abbrev along : Output Float (Result VectorCurveDerivatives Refusal) → ℕ × List Float
  along to = over_two_at (input vector_surfaces) (input parameters) to k (λ s w. vector_along_curve s w k) m a n c out

  pub vector-carry-whole : along (output vector_curves) ≡ along (whole vector_curves)
  vector-carry-whole =
      asked-whole vector_surfaces parameters vector_curves vector-curves-made m a n c out k (λ s w. composite_derivatives vectors w.0 w.1 s)
