use Rattle.std.proofs.Common.{rules, arith}
use Rattle.calculus.proofs.LoopOrders.{smallest-at, smallest-none, smallest_up_to_20}
use Rattle.calculus.proofs.smallest.Goals as goal

pub loop-n-init : goal.loop-n-init
loop-n-init c = (omega arith, omega (arith, smallest_up_to_20 c.args.orders.now))

pub loop-n-preserved : goal.loop-n-preserved
loop-n-preserved c =
    let at = smallest-at c.args.orders.now c.loop-n.n-index (search rules) in
    (omega (arith, c.smaller-least.ensures, c.loop-n.invariant.0), omega (arith, at, c.smaller-least.ensures, c.loop-n.invariant.1))

pub returns : goal.returns
returns c = omega (arith, smallest-none c.args.orders.now c.loop-n.n-index c.loop-n-test.false, c.loop-n.invariant.0, c.loop-n.invariant.1)
