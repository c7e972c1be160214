-- `exact_formulas::curve` meets its contract. Assumes nothing.
use Rattle.std.proofs.Common.{ap₂, ◌∙◌}
use Rattle.exact_formulas.specs.Entries.{curve_values, formed_curve}
use Rattle.exact_formulas.proofs.Formulas.{curve-operation}
use Rattle.exact_formulas.proofs.curve.Goals as goal

pub returns : goal.returns
returns c =
    let a = c.args in
    c.entries.ensures ∙ ap₂ formed_curve (curve-operation a.op (curve_values a.a.now) (curve_values a.b.now)) c.min.ensures
