-- `vector_derivatives::surface::on_weighted` meets its contract. Assumes nothing.
use Rattle.std.proofs.Common.{◌∙◌, sym}
use Rattle.formulas.specs.Numbers.{surface_numbers}
use Rattle.calculus.specs.Graded.{index}
use Rattle.calculus.specs.JetKind.{finite_up_to}
use Rattle.vector_formulas.specs.Vector.{vector_surface_numbers}
use Rattle.vector_surface_formulas.specs.Formulas.{vector_surface_by}
use Rattle.derivatives.specs.Answer.{surfaces}
use Rattle.derivatives.proofs.Passed.{met, not-met, both-low, both-worked}
use Rattle.vector_derivatives.specs.Answer.{vector_surfaces}
use Rattle.vector_derivatives.specs.Inner.{by_surface_weighted_entries}
use Rattle.vector_derivatives.proofs.Answers.{surface-returned}
use Rattle.vector_derivatives.proofs.surface.on_weighted.Goals as goal

pub returns-then-division_by_zero : goal.returns-then-division_by_zero
unfolding index
returns-then-division_by_zero c =
    let s = c.args in
    let e = sym c.both.ensures ∙ c.in_ok-n.was in
    met _ _ c.division_by_zero.ensures c.if-division_by_zero.true
    ∙ both-worked s.a.order s.b.order (finite_up_to vector_surfaces s.a) (finite_up_to surfaces s.b) e (by_surface_weighted_entries s.f (vector_surface_numbers s.a.entries) (surface_numbers s.b.entries))

pub returns : goal.returns
unfolding index
returns c =
    let s = c.args in
    let x = vector_surface_numbers s.a.entries in
    let w = surface_numbers s.b.entries in
    let e = sym c.both.ensures ∙ c.in_ok-n.was in
    c.returned.ensures
    ∙ surface-returned c.in_ok-n.n (both-low s.a.order s.b.order (finite_up_to vector_surfaces s.a) (finite_up_to surfaces s.b) e) (vector_surface_by s.f x x w) c.surface.ensures
    ∙ not-met _ _ c.division_by_zero.ensures c.if-division_by_zero.false
    ∙ both-worked s.a.order s.b.order (finite_up_to vector_surfaces s.a) (finite_up_to surfaces s.b) e (by_surface_weighted_entries s.f x w)
