-- `partitions::inner::falls` meets its contract. The invariant: the test of the parts from the place on is the test of all. Assumes nothing.
use Rattle.std.proofs.Common.{◌≡◌, drop}
use Rattle.partitions.specs.Count as Count
use Rattle.partitions.proofs.inner.falls.Given as goal

abbrev pub invariant-loop-a : goal.invariant-loop-a
invariant-loop-a l = Count.falls l.max l.list ≡ Count.falls l.last (drop l.a-index l.list)
