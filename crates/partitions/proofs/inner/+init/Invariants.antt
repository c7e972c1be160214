-- `partitions::inner::init` meets its contract: the first part, and by recursion the greatest list of what is left. The measure is the array's
-- length. Assumes nothing.
use Rattle.std.proofs.Common.{length}
use Rattle.partitions.proofs.inner.+init.Given as goal

abbrev pub decreases-init : goal.decreases-init
decreases-init l = length l.array.now
