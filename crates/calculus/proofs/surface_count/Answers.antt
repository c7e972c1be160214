-- `calculus::surface_count` meets its contract: each arm returns what the test picks. Assumes nothing.
use Rattle.std.proofs.Common.{arith, lt-ltb, le-ltb}
use Rattle.calculus.proofs.Graded.{count-is, count_fits}
use Rattle.calculus.proofs.surface_count.Goals as goal

pub returns-then-n-gt20 : goal.returns-then-n-gt20
returns-then-n-gt20 c = rw (lt-ltb 20 c.args.n c.if-n-gt20.true)

pub overflow_mul-result : goal.overflow_mul-result
overflow_mul-result c = record { fits = omega (arith, count_fits c.args.n c.if-n-gt20.false) }

pub returns : goal.returns
returns c = rw (le-ltb 20 c.args.n c.if-n-gt20.false) (count-is c.args.n)
