-- `exact::surface::on_two` meets its contract. Assumes nothing.
use Rattle.std.proofs.Common.{true, ◌∙◌, sym}
use Rattle.std.proofs.lemmas.Result.{err_from_is_err_and}
use Rattle.calculus.specs.Operation.{surface_operation}
use Rattle.calculus.proofs.Passed.{common-low, common-worked}
use Rattle.exact_formulas.specs.Kinds.{checked}
use Rattle.exact_formulas.specs.Entries.{surface_values}
use Rattle.exact.specs.Answer.{surface_answer}
use Rattle.exact.proofs.Answers.{surface-answered, surface-refused}
use Rattle.exact.proofs.surface.on_two.Goals as goal

pub returns-in_err-entries : goal.returns-in_err-entries
returns-in_err-entries c =
    let a = c.args in
    let f = surface_operation checked a.op (surface_values a.a.entries) (surface_values a.b.entries) in
    let e = sym c.common.ensures ∙ c.in_ok-order.was in
    let p = err_from_is_err_and c.from_residual-in_err-entries.result c.from_residual-in_err-entries.ensures.1 in
    rw (p.1, p.2)
    (surface-refused f (common-low a.a.order a.b.order true e) c.surface.ensures c.in_err-entries.was ∙ common-worked a.a.order a.b.order true e (surface_answer f))

pub returns : goal.returns
returns c =
    let a = c.args in
    let f = surface_operation checked a.op (surface_values a.a.entries) (surface_values a.b.entries) in
    let e = sym c.common.ensures ∙ c.in_ok-order.was in
    surface-answered f (common-low a.a.order a.b.order true e) c.surface.ensures c.in_ok-entries.was ∙ common-worked a.a.order a.b.order true e (surface_answer f)
