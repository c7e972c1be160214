-- `Group::differing` is safe: of the cases that are done, no more than all differ. Assumes nothing.
use Rattle.std.proofs.Common.{◌≤◌}
use Rattle.replay_text.proofs.groups.Group.differing.Given as goal

abbrev pub invariant-loop-place : goal.invariant-loop-place
invariant-loop-place g l = l.differ ≤ l.place-counter
