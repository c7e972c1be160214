-- `vector_derivatives::curve::on_two` meets its contract. Assumes nothing.
use Rattle.std.proofs.Common.{replicate, ◌∙◌, sym}
use Rattle.ieee_vectors.specs.Vectors.{positive_zero}
use Rattle.formulas.specs.Numbers.{curve_numbers}
use Rattle.calculus.specs.JetKind.{finite_up_to}
use Rattle.vector_formulas.specs.Vector.{vector_numbers}
use Rattle.vector_formulas.specs.Formulas.{vectors_by}
use Rattle.derivatives.proofs.Passed.{both-low, both-worked}
use Rattle.vector_derivatives.specs.Answer.{vector_curves}
use Rattle.vector_derivatives.specs.Inner.{by_vector_entries}
use Rattle.vector_derivatives.proofs.Answers.{vectors-returned}
use Rattle.vector_derivatives.proofs.curve.on_two.Goals as goal

pub returns : goal.returns
returns c =
    let s = c.args in
    let x = vector_numbers s.a.entries in
    let y = vector_numbers s.b.entries in
    let e = sym c.both.ensures ∙ c.in_ok-n.was in
    c.returned.ensures
    ∙ vectors-returned c.in_ok-n.n (both-low s.a.order s.b.order (finite_up_to vector_curves s.a) (finite_up_to vector_curves s.b) e) (vectors_by s.f x y (curve_numbers (replicate 21 positive_zero))) c.curve.ensures
    ∙ both-worked s.a.order s.b.order (finite_up_to vector_curves s.a) (finite_up_to vector_curves s.b) e (by_vector_entries s.f x y)
