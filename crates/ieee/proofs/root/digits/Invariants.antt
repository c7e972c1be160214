-- `root::digits` meets its contract: each turn keeps the recurrence's `State`. Assumes nothing.
use Rattle.ieee.proofs.Recurrence.{State}
use Rattle.ieee.proofs.root.digits.Given as goal

abbrev pub invariant-loop-turn : goal.invariant-loop-turn
invariant-loop-turn l = State l.w l.root l.rest l.left l._turn
