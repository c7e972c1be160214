-- `up_to` meets its contract: after m turns, the entries up to the order m. Assumes nothing.
use Rattle.std.proofs.Common.{◌≡◌}
use Rattle.contacts.specs.Center.{edge, radii, jet0, jet1, after}
use Rattle.contacts.proofs.steps.up_to.Given as goal

abbrev pub invariant-loop-m : goal.invariant-loop-m
invariant-loop-m l = l.k ≡ after (edge l.p) (radii l.p) (jet0 l.p) (jet1 l.p) l.inverse l.initial.k l.m
