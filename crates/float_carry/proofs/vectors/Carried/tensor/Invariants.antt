-- `float_carry::vectors::Carried::tensor` meets its contract. The invariant: the sum of the terms of the masks passed. Assumes nothing.
use Rattle.std.proofs.Common.{◌≡◌}
use Rattle.calculus.specs.InTurn.{in_turn}
use Rattle.vector_formulas.specs.Vector.{origin, vectors, vector_surface_numbers}
use Rattle.float_carry.proofs.Carries.{term_of}
use Rattle.float_carry.proofs.vectors.Carried.tensor.Given as goal

abbrev pub invariant-loop-mask : goal.invariant-loop-mask
invariant-loop-mask l = l.sum ≡ in_turn vectors.plus origin (term_of vectors (vector_surface_numbers l.self.entries.now) l.self.u.now l.self.v.now l.parts.list.now) l.mask
