-- `vector_surface_formulas::surface` meets its contract. Assumes nothing.
use Rattle.std.proofs.Common.{ap₂, ◌∙◌, ℕ}
use Rattle.ieee_vectors.specs.declared.Vector3.{Vector3}
use Rattle.formulas.specs.Numbers.{surface_numbers}
use Rattle.vector_formulas.specs.Vector.{vector_surface_numbers, vector_surface_array}
use Rattle.vector_surface_formulas.proofs.SurfaceEntries.{surface-by}
use Rattle.vector_surface_formulas.proofs.surface.Goals as goal

pub returns : goal.returns
returns c =
    let s = c.args in
    c.entries.ensures ∙ ap₂ (λ (g : ℕ → ℕ → Vector3) (k : ℕ). vector_surface_array g k) (surface-by s.f (vector_surface_numbers s.a.now) (vector_surface_numbers s.b.now) (surface_numbers s.w.now)) c.min.ensures
