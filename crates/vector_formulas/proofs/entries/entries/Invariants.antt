-- `vector_formulas::entries::entries` meets its contract. The invariant: the entries before m stand in the array. Assumes nothing.
use Rattle.vector_formulas.proofs.Vectors.{VectorsFilled}
use Rattle.vector_formulas.proofs.VectorCurves.{vectors_of}
use Rattle.vector_formulas.specs.Vector.{vector_numbers}
use Rattle.formulas.specs.Numbers.{curve_numbers}
use Rattle.vector_formulas.proofs.entries.entries.Given as goal

abbrev pub invariant-loop-m : goal.invariant-loop-m
invariant-loop-m l = VectorsFilled (vectors_of l.f (vector_numbers l.a) (vector_numbers l.b) (curve_numbers l.w)) l.m l.r
