-- `vector_surface_formulas::entries::dot_entry` meets its contract. The invariant: the sum of the terms passed. Assumes nothing.
use Rattle.std.proofs.Common.{◌≡◌, suc}
use Rattle.calculus.specs.InTurn.{in_rows}
use Rattle.calculus.specs.Surface.{leibniz}
use Rattle.vector_formulas.specs.Vector.{vector_surface_numbers}
use Rattle.ieee_vectors.specs.Vectors.{positive_zero, dot}
use Rattle.formulas.specs.Real.{real}
use Rattle.calculus.specs.Kind.{regular}
use Rattle.vector_surface_formulas.proofs.entries.dot_entry.Given as goal

abbrev pub invariant-loop-i : goal.invariant-loop-i
invariant-loop-i l = l.sum ≡ in_rows real.plus positive_zero (leibniz (regular real) dot (vector_surface_numbers l.a) (vector_surface_numbers l.b) l.m l.n) l.i (suc l.n)
