-- `parts_text::out::Text::push_lists` meets its contract. The invariant: the lines of the lists handed out are written; the measure is the number of
-- lists that remain. Assumes nothing.
use Rattle.std.proofs.Common.{length}
use Rattle.partitions.specs.Walk.{remaining}
use Rattle.parts_text.proofs.Going.{Going}
use Rattle.parts_text.proofs.out.Text.push_lists.Given as goal

abbrev pub invariant-loop-parts : goal.invariant-loop-parts
invariant-loop-parts l = Going l.order l.len l.initial.self l.walk l.self

abbrev pub decreases-loop-parts : goal.decreases-loop-parts
decreases-loop-parts l = length (remaining l.walk)
