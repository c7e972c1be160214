-- `formulas::curve` meets its contract. Assumes nothing.
use Rattle.std.proofs.Common.{ℕ, Float, ap₂, ◌∙◌}
use Rattle.calculus.specs.Array.{curve_array}
use Rattle.ieee_vectors.specs.Vectors.{positive_zero}
use Rattle.formulas.specs.Numbers.{curve_numbers}
use Rattle.formulas.proofs.Curves.{curve-by}
use Rattle.formulas.proofs.curve.Goals as goal

pub returns : goal.returns
returns c =
    let s = c.args in
    c.entries.ensures ∙ ap₂ (λ (g : ℕ → Float) (k : ℕ). curve_array positive_zero g k) (curve-by s.f (curve_numbers s.a.now) (curve_numbers s.b.now)) c.min.ensures
