-- `formulas::surface` meets its contract. Assumes nothing.
use Rattle.std.proofs.Common.{ℕ, Float, ap₂, ◌∙◌}
use Rattle.calculus.specs.Array.{surface_array}
use Rattle.ieee_vectors.specs.Vectors.{positive_zero}
use Rattle.formulas.specs.Numbers.{surface_numbers}
use Rattle.formulas.proofs.Surfaces.{surface-by}
use Rattle.formulas.proofs.surface.Goals as goal

pub returns : goal.returns
returns c =
    let s = c.args in
    c.entries.ensures ∙ ap₂ (λ (g : ℕ → ℕ → Float) (k : ℕ). surface_array positive_zero g k) (surface-by s.f (surface_numbers s.a.now) (surface_numbers s.b.now)) c.min.ensures
