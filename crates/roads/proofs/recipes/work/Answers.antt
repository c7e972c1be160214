use Rattle.std.proofs.Common.{◌∙◌, arith}
use Rattle.roads.proofs.Answers.{passed-on}
use Rattle.roads.proofs.Working.{left_in, right-in, offset, work-stops, work-goes-on, work-ends}
use Rattle.roads.proofs.recipes.work.Goals as goal

pub offset_bounds-jet_of-step : goal.offset_bounds-jet_of-step
offset_bounds-jet_of-step g c = offset _ _ (left_in c.loop-i.invariant c.loop-i-test.true) g.met.J.Jet.small

pub listed : goal.listed
listed g c = omega (arith, left_in c.loop-i.invariant c.loop-i-test.true, c.loop-i.invariant.wide)

pub bounds-jet_of-step : goal.bounds-jet_of-step
bounds-jet_of-step g c = omega (arith, left_in c.loop-i.invariant c.loop-i-test.true)

pub offset_bounds-jet_of-step-in-loop-i : goal.offset_bounds-jet_of-step-in-loop-i
offset_bounds-jet_of-step-in-loop-i g c = offset _ _ (right-in c.loop-i.invariant c.loop-i-test.true) g.met.J.Jet.small

pub listed-in-loop-i : goal.listed-in-loop-i
listed-in-loop-i g c = omega (arith, right-in c.loop-i.invariant c.loop-i-test.true, c.loop-i.invariant.wide)

pub bounds-jet_of-step-in-loop-i : goal.bounds-jet_of-step-in-loop-i
bounds-jet_of-step-in-loop-i g c = omega (arith, right-in c.loop-i.invariant c.loop-i-test.true)

pub returns-in_err-jet : goal.returns-in_err-jet
returns-in_err-jet g c =
    passed-on c.from_residual.ensures.1 ∙ work-stops c.loop-i.invariant c.loop-i-test.true _ _ c.apply.ensures c.in_err-jet.was

pub loop-i-preserved : goal.loop-i-preserved
loop-i-preserved g c = work-goes-on c.loop-i.invariant c.loop-i-test.true _ _ c.apply.ensures c.in_ok-jet.was

pub returns : goal.returns
returns g c = work-ends c.loop-i.invariant _ c.requires.0 c.loop-i-test.false c.loop-i.auto.i-end
