-- `one_terms` meets its contract: after each turn, the terms of the parameters before. Assumes nothing.
use Rattle.std.proofs.Common.{◌≡◌}
use Rattle.ieee_vectors.specs.Matrices.{sum3}
use Rattle.calculus.specs.InTurn.{in_turn}
use Rattle.rodrigues.specs.Rotation.{zeros}
use Rattle.partials.specs.Partials.{one_term}
use Rattle.partials.proofs.rotations.one_terms.Given as goal

abbrev pub invariant-loop-i : goal.invariant-loop-i
invariant-loop-i l = l.sum ≡ in_turn sum3 zeros (one_term l.turn.axis l.turn.angle.s l.turn.angle.c l.a.axis l.a.angle) l.i-index
