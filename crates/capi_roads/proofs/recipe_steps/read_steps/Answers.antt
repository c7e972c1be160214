use Rattle.std.proofs.Common.{◌/◌, ◌∙◌, ap, arith, length}
use Rattle.std.specs.Result.{result_unwrap_or}
use Rattle.calculus.proofs.LoopFilling.{curve-more}
use Rattle.capi_roads.specs.Recipes.{step_at, blank_step, no_step}
use Rattle.capi_roads.proofs.RecipeLists.{first-filled, step-there, past-more, more-fits, all-passed}
use Rattle.capi_roads.proofs.recipe_steps.read_steps.Invariants.{Entry}
use Rattle.capi_roads.proofs.recipe_steps.read_steps.Goals as goal

pub loop-i-preserved : goal.loop-i-preserved
loop-i-preserved c =
    let l = c.args.steps.now in
    let i = c.loop-i.i-iterator.count in
    let before = c.loop-i.invariant in
    let taken = c.in-Some.ensures.steps.0 in
    let passed = c.in-Some.ensures.steps.2 in
    let three = c.in-Some.step.now in
    let later = c.next.new.self.iter.iter.rest.now in
    let front = taken.0.1.0 in
    let size = taken.0.1.1 ∙ before.2 in
    let v = c.unwrap_or.ensures ∙ ap (λ r. result_unwrap_or r no_step) c.step_of.ensures ∙ step-there l i three later before.3 front size in
    rw (passed, c.in-Some.ensures.steps.1) (
      omega (arith, taken.1, before.0),
      more-fits l i three later before.3 front size before.1,
      taken.0.0 ∙ before.2,
      past-more l i three later before.3 front size,
      curve-more 12 blank_step blank_step (Entry l) _ before.4 (omega (arith, taken.1, before.0)) v,
    )

pub returns : goal.returns
returns c =
    let l = c.args.steps.now in
    let inv = c.loop-i.invariant in
    let none = c.in-None.ensures.steps.0 in
    let e = all-passed l _ _ inv.3 inv.1 inv.0 (λ h. omega (arith, (none h).1.0, inv.2)) in
    first-filled 12 blank_step (step_at l) (length l / 3) inv.4 e
