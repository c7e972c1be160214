-- The invariant: the first m pairs are written. Assumes nothing.
use Rattle.std.proofs.Common.{suc, ◌*◌, min}
use Rattle.calculus.specs.Order.{pairs}
use Rattle.calculus.proofs.LoopPlaces.{numbers_in}
use Rattle.calculus.proofs.LoopPairs.{pairs_left}
use Rattle.calculus.proofs.LoopWritten.{Written}
use Rattle.calculus.proofs.places.pairs_write.Given as goal

abbrev pub invariant-loop-m : goal.invariant-loop-m
invariant-loop-m g at =
    Written (pairs (numbers_in at.zero at.u) (numbers_in at.zero at.v) 0 (suc (min at.n 20))) at.fn.out at.out
    (pairs_left (numbers_in at.zero at.u) (numbers_in at.zero at.v) (min at.n 20) at.m) (2 * at.m)
