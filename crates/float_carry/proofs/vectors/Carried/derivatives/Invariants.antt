-- `float_carry::vectors::Carried::derivatives` meets its contract. The invariant: the entries passed stand in the array. Assumes nothing.
use Rattle.vector_formulas.proofs.Vectors.{VectorsFilled}
use Rattle.float_carry.proofs.Carries.{carried_vectors}
use Rattle.float_carry.proofs.vectors.Carried.derivatives.Given as goal

abbrev pub invariant-loop-m : goal.invariant-loop-m
invariant-loop-m l = VectorsFilled (carried_vectors l.self.entries.now l.self.u.now l.self.v.now) l.m l.r
