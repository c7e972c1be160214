-- `derivatives::curve::on_two` meets its contract. Assumes nothing.
use Rattle.std.proofs.Common.{◌∙◌, sym}
use Rattle.formulas.specs.Operations.{curve_by}
use Rattle.formulas.specs.Numbers.{curve_numbers}
use Rattle.calculus.specs.JetKind.{finite_up_to}
use Rattle.derivatives.specs.Answer.{curves}
use Rattle.derivatives.specs.Inner.{by_curve_entries}
use Rattle.derivatives.proofs.Passed.{not-met, both-low, both-worked}
use Rattle.derivatives.proofs.Answers.{curve-returned}
use Rattle.derivatives.proofs.curve.on_two.Goals as goal

pub returns : goal.returns
returns c =
    let s = c.args in
    let x = curve_numbers s.a.entries in
    let y = curve_numbers s.b.entries in
    let e = sym c.both.ensures ∙ c.in_ok-n.was in
    c.returned_curve.ensures
    ∙ curve-returned c.in_ok-n.n (both-low s.a.order s.b.order (finite_up_to curves s.a) (finite_up_to curves s.b) e) (curve_by s.f x y) c.curve.ensures
    ∙ not-met _ _ c.division_by_zero.ensures c.if-division_by_zero.false
    ∙ both-worked s.a.order s.b.order (finite_up_to curves s.a) (finite_up_to curves s.b) e (by_curve_entries s.f x y)
