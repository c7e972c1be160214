-- `exact_carry::Carried::derivative` meets its contract. The invariant: the total is that of the lens passed. Assumes nothing.
use Rattle.std.proofs.Common.{◌≡◌, ◌-◌, Ok}
use Rattle.exact_carry.proofs.Masks.{through}
use Rattle.exact_carry.proofs.Carried.derivative.Given as goal

abbrev pub invariant-loop-len : goal.invariant-loop-len
invariant-loop-len l = Ok l.total ≡ through l.self.entries.now l.self.u.now l.self.v.now l.n (l.len - 1)
