-- `partitions::inner::total` meets its contract. The invariant: what was added, with the parts from the place on, is the whole sum. Assumes nothing.
use Rattle.std.proofs.Common.{◌≡◌, ◌+◌, ◌≤◌, drop}
use Rattle.partitions.specs.Parts.{total}
use Rattle.partitions.proofs.inner.total.Given as goal

abbrev pub invariant-loop-a : goal.invariant-loop-a
invariant-loop-a l = (l.sum ≤ 20) × (l.sum + total (drop l.a-index l.list) ≡ total l.list)
