-- `vector_formulas::curve` meets its contract. Assumes nothing.
use Rattle.std.proofs.Common.{ap₂, ◌∙◌, ℕ}
use Rattle.ieee_vectors.specs.declared.Vector3.{Vector3}
use Rattle.formulas.specs.Numbers.{curve_numbers}
use Rattle.vector_formulas.specs.Vector.{vector_numbers, vector_array}
use Rattle.vector_formulas.proofs.VectorCurves.{vectors-by}
use Rattle.vector_formulas.proofs.curve.Goals as goal

pub returns : goal.returns
returns c =
    let s = c.args in
    c.entries.ensures ∙ ap₂ (λ (g : ℕ → Vector3) (k : ℕ). vector_array g k) (vectors-by s.f (vector_numbers s.a.now) (vector_numbers s.b.now) (curve_numbers s.w.now)) c.min.ensures
