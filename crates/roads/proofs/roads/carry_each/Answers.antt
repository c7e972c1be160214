use Rattle.std.proofs.Common.{length, take, ap, sym, ◌∙◌}
use Rattle.std.specs.Result.{result_map_both}
use Rattle.roads.proofs.Answers.{passed-on}
use Rattle.roads.proofs.Carrying.{carry-goes-on, carry-stops, carry-ends}
use Rattle.roads.proofs.roads.carry_each.Goals as goal

pub returns-in_err-curves : goal.returns-in_err-curves
returns-in_err-curves c =
    ap (result_map_both (take (length c.args.given.now)) (λ c. c)) (passed-on c.from_residual.ensures.1)
    ∙ carry-stops _ _ c.loop-i.invariant c.loop-i-test.true (sym c.in_err-curves.ensures)

pub loop-i-preserved : goal.loop-i-preserved
loop-i-preserved c = carry-goes-on _ _ c.loop-i.invariant c.loop-i-test.true (sym c.in_ok-curves.ensures)

pub returns : goal.returns
returns c = carry-ends _ _ c.loop-i.invariant c.loop-i-test.false c.loop-i.auto.i-end
