-- `vector_formulas::entries::dot_entry` meets its contract. The invariant: the sum of the first i terms. Assumes nothing.
use Rattle.std.proofs.Common.{◌≡◌}
use Rattle.calculus.specs.InTurn.{in_turn}
use Rattle.vector_formulas.specs.Vector.{vector_numbers}
use Rattle.ieee_vectors.specs.Vectors.{positive_zero, dot}
use Rattle.formulas.specs.Real.{real}
use Rattle.calculus.specs.Kind.{regular}
use Rattle.calculus.specs.Curve.{leibniz}
use Rattle.vector_formulas.proofs.entries.dot_entry.Given as goal

abbrev pub invariant-loop-i : goal.invariant-loop-i
invariant-loop-i l = l.sum ≡ in_turn real.plus positive_zero (leibniz (regular real) dot (vector_numbers l.a) (vector_numbers l.b) l.m) l.i
