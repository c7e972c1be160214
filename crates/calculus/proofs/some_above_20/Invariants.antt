-- `calculus::some_above_20` meets its contract. The invariant: the test on the orders left is the test on all. Assumes nothing.
use Rattle.std.proofs.Common.{◌≡◌, drop}
use Rattle.calculus.specs.Orders.{some_above20}
use Rattle.calculus.proofs.some_above_20.Given as goal

abbrev pub invariant-loop-n : goal.invariant-loop-n
invariant-loop-n l = some_above20 (drop l.n-index l.orders) ≡ some_above20 l.orders
