-- `vector_derivatives::curve::on_weighted` meets its contract. Assumes nothing.
use Rattle.std.proofs.Common.{◌∙◌, sym}
use Rattle.formulas.specs.Numbers.{curve_numbers}
use Rattle.calculus.specs.JetKind.{finite_up_to}
use Rattle.vector_formulas.specs.Vector.{vector_numbers}
use Rattle.vector_formulas.specs.Formulas.{vectors_by}
use Rattle.derivatives.specs.Answer.{curves}
use Rattle.derivatives.proofs.Passed.{not-met, both-low, both-worked}
use Rattle.vector_derivatives.specs.Answer.{vector_curves}
use Rattle.vector_derivatives.specs.Inner.{by_weighted_entries}
use Rattle.vector_derivatives.proofs.Answers.{vectors-returned}
use Rattle.vector_derivatives.proofs.curve.on_weighted.Goals as goal

pub returns : goal.returns
returns c =
    let s = c.args in
    let x = vector_numbers s.a.entries in
    let w = curve_numbers s.b.entries in
    let e = sym c.both.ensures ∙ c.in_ok-n.was in
    c.returned.ensures
    ∙ vectors-returned c.in_ok-n.n (both-low s.a.order s.b.order (finite_up_to vector_curves s.a) (finite_up_to curves s.b) e) (vectors_by s.f x x w) c.curve.ensures
    ∙ not-met _ _ c.division_by_zero.ensures c.if-division_by_zero.false
    ∙ both-worked s.a.order s.b.order (finite_up_to vector_curves s.a) (finite_up_to curves s.b) e (by_weighted_entries s.f x w)
