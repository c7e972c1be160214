-- `vector_formulas::entries::cross_entry` meets its contract. The invariant: the sum of the first i terms. Assumes nothing.
use Rattle.std.proofs.Common.{◌≡◌}
use Rattle.calculus.specs.InTurn.{in_turn}
use Rattle.vector_formulas.specs.Vector.{origin, vectors, vector_numbers}
use Rattle.calculus.specs.Curve.{leibniz}
use Rattle.ieee_vectors.specs.Vectors.{cross}
use Rattle.vector_formulas.proofs.entries.cross_entry.Given as goal

abbrev pub invariant-loop-i : goal.invariant-loop-i
invariant-loop-i l = l.sum ≡ in_turn vectors.plus origin (leibniz vectors cross (vector_numbers l.a) (vector_numbers l.b) l.m) l.i
