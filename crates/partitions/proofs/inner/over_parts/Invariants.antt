-- `partitions::inner::over_parts` meets its contract. The invariant: what is left, divided from the place on, is the whole. Assumes nothing.
use Rattle.std.proofs.Common.{◌≡◌, drop}
use Rattle.partitions.specs.Parts.{divide}
use Rattle.partitions.proofs.inner.over_parts.Given as goal

abbrev pub invariant-loop-a : goal.invariant-loop-a
invariant-loop-a l = divide l.rest (drop l.a-index l.list) ≡ divide l.x l.list
