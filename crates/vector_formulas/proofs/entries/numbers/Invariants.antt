-- `vector_formulas::entries::numbers` meets its contract. The invariant: the entries before m stand in the array. Assumes nothing.
use Rattle.formulas.proofs.Curves.{CurveFilled}
use Rattle.vector_formulas.proofs.VectorCurves.{numbers_of}
use Rattle.vector_formulas.specs.Vector.{vector_numbers}
use Rattle.vector_formulas.proofs.entries.numbers.Given as goal

abbrev pub invariant-loop-m : goal.invariant-loop-m
invariant-loop-m l = CurveFilled (numbers_of l.f (vector_numbers l.a) (vector_numbers l.b)) l.m l.r
