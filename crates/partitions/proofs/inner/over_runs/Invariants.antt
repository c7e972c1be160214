-- `partitions::inner::over_runs` meets its contract. The invariant: what is left, divided by the run so far and those after it, is the whole.
-- Assumes nothing.
use Rattle.std.proofs.Common.{◌≡◌, ◌+◌, ◌<◌, ◌≤◌, length, get_or, drop}
use Rattle.std.specs.Slice.Iter.{windows_size, windows_rest}
use Rattle.partitions.specs.Parts.{divide, runs_from, runs}
use Rattle.partitions.proofs.inner.over_runs.Given as goal

abbrev pub invariant-loop-pair : goal.invariant-loop-pair
invariant-loop-pair l =
    let left = windows_rest l.pair-iterator in
    (windows_size l.pair-iterator ≡ 2) × (0 < length left) × (l.run + length left ≤ length l.list + 1)
    × (divide l.rest (runs_from (get_or left 0 0) l.run (drop 1 left)) ≡ divide l.x (runs l.list))
