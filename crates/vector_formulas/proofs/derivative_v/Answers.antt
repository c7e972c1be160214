-- `vector_formulas::derivative_v` meets its contract. Assumes nothing.
use Rattle.std.proofs.Common.{ap₂, ◌∙◌, ℕ}
use Rattle.ieee_vectors.specs.declared.Vector3.{Vector3}
use Rattle.vector_formulas.specs.Vector.{vector_surface_numbers, vector_surface_array}
use Rattle.calculus.proofs.LoopShifts.{v-entries}
use Rattle.vector_formulas.proofs.derivative_v.Goals as goal

pub returns : goal.returns
returns c = c.shifted.ensures ∙ ap₂ (λ (g : ℕ → ℕ → Vector3) (k : ℕ). vector_surface_array g k) (v-entries (vector_surface_numbers c.args.a.now)) c.min.ensures
