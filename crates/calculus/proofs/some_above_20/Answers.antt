use Rattle.std.proofs.Common.{sym, ◌∙◌, rules}
use Rattle.calculus.proofs.LoopOrders.{above-here, above-later, above-none}
use Rattle.calculus.proofs.some_above_20.Goals as goal

pub returns-then-n-gt20 : goal.returns-then-n-gt20
returns-then-n-gt20 c = sym (above-here c.args.orders.now c.loop-n.n-index (search rules) c.if-n-gt20.true) ∙ c.loop-n.invariant

pub loop-n-preserved : goal.loop-n-preserved
loop-n-preserved c = sym (above-later c.args.orders.now c.loop-n.n-index (search rules) c.if-n-gt20.false) ∙ c.loop-n.invariant

pub returns : goal.returns
returns c = sym (above-none c.args.orders.now c.loop-n.n-index c.loop-n-test.false) ∙ c.loop-n.invariant
