-- `calculus::smallest` meets its contract. The invariant: the least so far and the smallest of the orders left are the smallest of all. Assumes nothing.
use Rattle.std.proofs.Common.{◌≡◌, ◌≤◌, min, drop}
use Rattle.calculus.specs.Orders.{smallest}
use Rattle.calculus.proofs.smallest.Given as goal

abbrev pub invariant-loop-n : goal.invariant-loop-n
invariant-loop-n l = (l.least ≤ 20) × (min l.least (smallest (drop l.n-index l.orders)) ≡ smallest l.orders)
