-- `vector_formulas::entries::scaled_entry` meets its contract. The invariant: the sum of the first i terms. Assumes nothing.
use Rattle.std.proofs.Common.{◌≡◌}
use Rattle.calculus.specs.InTurn.{in_turn}
use Rattle.formulas.specs.Numbers.{curve_numbers}
use Rattle.vector_formulas.specs.Vector.{origin, vectors, vector_numbers}
use Rattle.calculus.specs.Curve.{leibniz}
use Rattle.ieee_vectors.specs.Vectors.{multiple}
use Rattle.vector_formulas.proofs.entries.scaled_entry.Given as goal

abbrev pub invariant-loop-i : goal.invariant-loop-i
invariant-loop-i l = l.sum ≡ in_turn vectors.plus origin (leibniz vectors multiple (vector_numbers l.a) (curve_numbers l.b) l.m) l.i
