-- `derivatives::surface::on_two` meets its contract. Assumes nothing.
use Rattle.std.proofs.Common.{◌∙◌, sym}
use Rattle.formulas.specs.Operations.{surface_by}
use Rattle.formulas.specs.Numbers.{surface_numbers}
use Rattle.calculus.specs.Graded.{index}
use Rattle.calculus.specs.JetKind.{finite_up_to}
use Rattle.derivatives.specs.Answer.{surfaces}
use Rattle.derivatives.specs.Inner.{by_surface_entries}
use Rattle.derivatives.proofs.Passed.{met, not-met, both-low, both-worked}
use Rattle.derivatives.proofs.Answers.{surface-returned}
use Rattle.derivatives.proofs.surface.on_two.Goals as goal

pub returns-then-division_by_zero : goal.returns-then-division_by_zero
unfolding index
returns-then-division_by_zero c =
    let s = c.args in
    let e = sym c.both.ensures ∙ c.in_ok-n.was in
    met _ _ c.division_by_zero.ensures c.if-division_by_zero.true
    ∙ both-worked s.a.order s.b.order (finite_up_to surfaces s.a) (finite_up_to surfaces s.b) e (by_surface_entries s.f (surface_numbers s.a.entries) (surface_numbers s.b.entries))

pub returns : goal.returns
unfolding index
returns c =
    let s = c.args in
    let x = surface_numbers s.a.entries in
    let y = surface_numbers s.b.entries in
    let e = sym c.both.ensures ∙ c.in_ok-n.was in
    c.returned_surface.ensures
    ∙ surface-returned c.in_ok-n.n (both-low s.a.order s.b.order (finite_up_to surfaces s.a) (finite_up_to surfaces s.b) e) (surface_by s.f x y) c.surface.ensures
    ∙ not-met _ _ c.division_by_zero.ensures c.if-division_by_zero.false
    ∙ both-worked s.a.order s.b.order (finite_up_to surfaces s.a) (finite_up_to surfaces s.b) e (by_surface_entries s.f x y)
