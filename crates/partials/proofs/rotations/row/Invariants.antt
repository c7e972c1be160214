-- `row` meets its contract: after each turn, the terms of the parameters before. Assumes nothing.
use Rattle.std.proofs.Common.{◌≡◌}
use Rattle.ieee_vectors.specs.Matrices.{sum3}
use Rattle.calculus.specs.InTurn.{in_turn}
use Rattle.partials.specs.Parameters.{place}
use Rattle.partials.specs.Partials.{two_term}
use Rattle.partials.proofs.rotations.row.Given as goal

abbrev pub invariant-loop-j : goal.invariant-loop-j
invariant-loop-j l = l.sum ≡ in_turn sum3 l.initial.sum (two_term l.turn.axis l.turn.angle.s l.turn.angle.c l.a.axis l.a.angle (place l.i)) l.j-index
