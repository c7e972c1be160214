-- `exact_carry::Carried::tensor` meets its contract. The invariant: the sum is that of the terms of the masks passed. Assumes nothing.
use Rattle.std.proofs.Common.{◌≡◌, Ok}
use Rattle.calculus.specs.InTurn.{in_turn}
use Rattle.exact_formulas.specs.Kinds.{checked}
use Rattle.exact_carry.proofs.Masks.{term_of}
use Rattle.exact_carry.proofs.Carried.tensor.Given as goal

abbrev pub invariant-loop-mask : goal.invariant-loop-mask
invariant-loop-mask l = Ok l.sum ≡ in_turn checked.plus checked.zero (term_of l.self.entries.now l.self.u.now l.self.v.now l.parts.list.now) l.mask
