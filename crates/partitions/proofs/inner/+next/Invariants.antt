-- `partitions::inner::next` meets its contract: by recursion the next list of the tail, or the first part less one and the tail anew. The measure
-- is the array's length. Assumes nothing.
use Rattle.std.proofs.Common.{length}
use Rattle.partitions.proofs.inner.+next.Given as goal

abbrev pub decreases-next : goal.decreases-next
decreases-next l = length l.array.now
