-- `vector_derivatives::surface::on_two` meets its contract. Assumes nothing.
use Rattle.std.proofs.Common.{replicate, ◌∙◌, sym}
use Rattle.ieee_vectors.specs.Vectors.{positive_zero}
use Rattle.formulas.specs.Numbers.{surface_numbers}
use Rattle.calculus.specs.JetKind.{finite_up_to}
use Rattle.vector_formulas.specs.Vector.{vector_surface_numbers}
use Rattle.vector_surface_formulas.specs.Formulas.{vector_surface_by}
use Rattle.derivatives.proofs.Passed.{both-low, both-worked}
use Rattle.vector_derivatives.specs.Answer.{vector_surfaces}
use Rattle.vector_derivatives.specs.Inner.{by_vector_surface_entries}
use Rattle.vector_derivatives.proofs.Answers.{surface-returned}
use Rattle.vector_derivatives.proofs.surface.on_two.Goals as goal

pub returns : goal.returns
returns c =
    let s = c.args in
    let x = vector_surface_numbers s.a.entries in
    let y = vector_surface_numbers s.b.entries in
    let e = sym c.both.ensures ∙ c.in_ok-n.was in
    c.returned.ensures
    ∙ surface-returned c.in_ok-n.n (both-low s.a.order s.b.order (finite_up_to vector_surfaces s.a) (finite_up_to vector_surfaces s.b) e) (vector_surface_by s.f x y (surface_numbers (replicate 231 positive_zero))) c.surface.ensures
    ∙ both-worked s.a.order s.b.order (finite_up_to vector_surfaces s.a) (finite_up_to vector_surfaces s.b) e (by_vector_surface_entries s.f x y)
