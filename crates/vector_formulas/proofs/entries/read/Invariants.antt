-- `vector_formulas::entries::read` meets its contract. The invariant: the entries before m stand in the array. Assumes nothing.
use Rattle.vector_formulas.proofs.Vectors.{VectorsFilled}
use Rattle.vector_formulas.specs.Vector.{vector_numbers}
use Rattle.vector_formulas.proofs.entries.read.Given as goal

abbrev pub invariant-loop-m : goal.invariant-loop-m
invariant-loop-m l = VectorsFilled (vector_numbers l.list) l.m l.r
