-- The kinds of jet of vectors, and what functions on them answer. Assumes nothing.
use Rattle.std.specs.Prelude.{cond, ◌&&◌, ℕ, ◌*◌, ltb, replicate, Float, Result, Err}
use Rattle.refusals.specs.declared.Refusal.{Refusal}
use Rattle.refusals.specs.declared.Refusal.TheVariants.{DivisionByZero}
use Rattle.vectors.specs.Answers.{returned_vector}
use Rattle.calculus.specs.JetKind.{Entries, JetKind, jets_of_curves, jets_of_surfaces, returned, on_one, on_two_at}
use Rattle.ieee_vectors.specs.declared.Vector3.{Vector3}
use Rattle.ieee_vectors.specs.Vectors.{positive_zero}
use Rattle.formulas.specs.Real.{is_zero}
use Rattle.formulas.specs.Numbers.{finite_list}
use Rattle.vector_formulas.specs.Vector.{origin, vector_numbers, flat, all_vectors_finite}
use Rattle.vector_derivatives.specs.declared.VectorCurveDerivatives.{VectorCurveDerivatives}
use Rattle.vector_derivatives.specs.declared.VectorSurfaceDerivatives.{VectorSurfaceDerivatives}

-- ---- vectors as the entries of jets: x, y and z of each in turn
abbrev pub threes : Entries Float Vector3
threes = record { zero = origin; at = vector_numbers; flat = flat; size = λ k. 3 * k; zeros = λ k. replicate (3 * k) positive_zero; finite = all_vectors_finite; finite_list = finite_list }

abbrev pub vector_curves : JetKind Float (ℕ → Vector3) VectorCurveDerivatives
vector_curves = jets_of_curves threes (record { order = λ a. a.order; stored = λ a. a.entries; make = λ n l. record { order = n; entries = l } })

abbrev pub vector_surfaces : JetKind Float (ℕ → ℕ → Vector3) VectorSurfaceDerivatives
vector_surfaces = jets_of_surfaces threes (record { order = λ a. a.order; stored = λ a. a.entries; make = λ n l. record { order = n; entries = l } })

-- ---- the norm of a jet of the kind K, a jet of the kind R: 7 where it divides by its first entry, as it does from the order 1 on, and that is zero
abbrev pub by_norm : {X E J Z G H : Type 0} → JetKind X E J → JetKind Z G H → (G → Float) → (E → G) → J → Result H Refusal
by_norm K R first norm = on_one K (λ x n. cond (ltb 0 n && is_zero (first (norm x))) (Err DivisionByZero) (returned R n (norm x)))

-- ---- one vector by a formula on two jets, worked at an order that is asked
abbrev pub vector_entry_at : {X E J Y F L : Type 0} → JetKind X E J → JetKind Y F L → (E → F → Vector3) → J → L → ℕ → Result Vector3 Refusal
vector_entry_at K M f = on_two_at K M (λ x y. returned_vector (f x y))
