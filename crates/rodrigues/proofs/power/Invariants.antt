-- `power` meets its contract: after i turns, the power i. Assumes nothing.
use Rattle.std.proofs.Common.{◌≡◌}
use Rattle.rodrigues.specs.Circle.{power}
use Rattle.rodrigues.proofs.power.Given as goal

abbrev pub invariant-loop : goal.invariant-loop
invariant-loop l = l.p ≡ power l.x l.counter
