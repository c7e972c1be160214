-- The invariants: the entries passed are written, and l is how many they are. Assumes nothing.
use Rattle.calculus.specs.Order.{surface_entries}
use Rattle.calculus.proofs.LoopPlaces.{surface_in}
use Rattle.calculus.proofs.LoopLeft.{surface_left}
use Rattle.calculus.proofs.LoopWritten.{Written}
use Rattle.calculus.proofs.places.surface_write.Given as goal

abbrev pub invariant-loop-j : goal.invariant-loop-j
invariant-loop-j g at =
    Written (surface_entries (surface_in at.zero at.a) at.n) at.fn.out at.out (surface_left (surface_in at.zero at.a) at.n at.i at.j) at.l

abbrev pub invariant-loop-i : goal.invariant-loop-i
invariant-loop-i g at =
    Written (surface_entries (surface_in at.zero at.a) at.n) at.fn.out at.out (surface_left (surface_in at.zero at.a) at.n at.i 0) at.l
