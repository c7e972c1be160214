-- `exact_formulas::surface` meets its contract. Assumes nothing.
use Rattle.std.proofs.Common.{ap₂, ◌∙◌}
use Rattle.exact_formulas.specs.Entries.{surface_values, formed_surface}
use Rattle.exact_formulas.proofs.Formulas.{surface-operation}
use Rattle.exact_formulas.proofs.surface.Goals as goal

pub returns : goal.returns
returns c =
    let a = c.args in
    c.entries.ensures ∙ ap₂ formed_surface (surface-operation a.op (surface_values a.a.now) (surface_values a.b.now)) c.min.ensures
