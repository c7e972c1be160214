-- `float_carry::floats::Carried::along_lists` meets its contract. The invariant: from the sum so far, the lists still to come lead to the whole total. The
-- measure is how many lists are still to come. Assumes nothing.
use Rattle.std.proofs.Common.{◌≡◌, length}
use Rattle.partitions.specs.Parts.{lists}
use Rattle.partitions.specs.Walk.{remaining}
use Rattle.calculus.specs.InTurn.{along_list}
use Rattle.calculus.specs.Kind.{regular}
use Rattle.calculus.proofs.LoopWalking.{Walks}
use Rattle.formulas.specs.Real.{real}
use Rattle.formulas.specs.Numbers.{surface_numbers}
use Rattle.float_carry.proofs.Carries.{terms}
use Rattle.float_carry.proofs.floats.Carried.along_lists.Given as goal

abbrev pub invariant-loop-parts : goal.invariant-loop-parts
invariant-loop-parts l =
    let t = terms (regular real) (surface_numbers l.self.entries.now) l.self.u.now l.self.v.now in
    Walks l.order l.len l.walk × (along_list real.plus l.sum t (remaining l.walk) ≡ along_list real.plus l.start t (lists l.order l.len))

abbrev pub decreases-loop-parts : goal.decreases-loop-parts
decreases-loop-parts l = length (remaining l.walk)
