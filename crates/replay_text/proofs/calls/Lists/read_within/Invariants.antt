-- `Lists::read_within` is safe: the lists that are read end within the places. Assumes nothing.
use Rattle.std.proofs.Common.{◌≤◌, length}
use Rattle.replay_text.proofs.calls.Lists.read_within.Given as goal

abbrev pub invariant-loop-end : goal.invariant-loop-end
invariant-loop-end g l = l.at ≤ length l.places
