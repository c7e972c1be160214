-- `exact::curve::on_two` meets its contract. Assumes nothing.
use Rattle.std.proofs.Common.{true, ◌∙◌, sym}
use Rattle.std.proofs.lemmas.Result.{err_from_is_err_and}
use Rattle.calculus.specs.Operation.{curve_operation}
use Rattle.calculus.proofs.Passed.{common-low, common-worked}
use Rattle.exact_formulas.specs.Kinds.{checked}
use Rattle.exact_formulas.specs.Entries.{curve_values}
use Rattle.exact.specs.Answer.{curve_answer}
use Rattle.exact.proofs.Answers.{curve-answered, curve-refused}
use Rattle.exact.proofs.curve.on_two.Goals as goal

pub returns-in_err-entries : goal.returns-in_err-entries
returns-in_err-entries c =
    let a = c.args in
    let f = curve_operation checked a.op (curve_values a.a.entries) (curve_values a.b.entries) in
    let e = sym c.common.ensures ∙ c.in_ok-order.was in
    let p = err_from_is_err_and c.from_residual-in_err-entries.result c.from_residual-in_err-entries.ensures.1 in
    rw (p.1, p.2)
    (curve-refused f (common-low a.a.order a.b.order true e) c.curve.ensures c.in_err-entries.was ∙ common-worked a.a.order a.b.order true e (curve_answer f))

pub returns : goal.returns
returns c =
    let a = c.args in
    let f = curve_operation checked a.op (curve_values a.a.entries) (curve_values a.b.entries) in
    let e = sym c.common.ensures ∙ c.in_ok-order.was in
    curve-answered f (common-low a.a.order a.b.order true e) c.curve.ensures c.in_ok-entries.was ∙ common-worked a.a.order a.b.order true e (curve_answer f)
