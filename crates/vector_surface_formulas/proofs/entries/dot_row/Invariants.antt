-- `vector_surface_formulas::entries::dot_row` meets its contract. The invariant: the sum of the terms passed. Assumes nothing.
use Rattle.std.proofs.Common.{◌≡◌}
use Rattle.calculus.specs.InTurn.{in_turn}
use Rattle.calculus.specs.Surface.{leibniz}
use Rattle.vector_formulas.specs.Vector.{vector_surface_numbers}
use Rattle.formulas.specs.Real.{real}
use Rattle.ieee_vectors.specs.Vectors.{dot}
use Rattle.calculus.specs.Kind.{regular}
use Rattle.vector_surface_formulas.proofs.entries.dot_row.Given as goal

abbrev pub invariant-loop-j : goal.invariant-loop-j
invariant-loop-j l = l.sum ≡ in_turn real.plus l.start (leibniz (regular real) dot (vector_surface_numbers l.a) (vector_surface_numbers l.b) l.m l.n l.i) l.j
