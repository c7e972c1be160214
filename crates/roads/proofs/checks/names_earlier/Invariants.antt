-- `roads::checks::names_earlier` meets its contract. The invariant: the test on the steps left is the test on all. Assumes nothing.
use Rattle.std.specs.Prelude.{◌≡◌, ◌+◌, drop}
use Rattle.roads.specs.Recipe.{names_earlier}
use Rattle.roads.proofs.checks.names_earlier.Given as goal

abbrev pub invariant-loop-i : goal.invariant-loop-i
invariant-loop-i l = names_earlier (l.inputs + l.i) (drop l.i l.program) ≡ names_earlier l.inputs l.program
