-- `float_carry::vectors::Carried::derivative` meets its contract. The invariant: the total is that of the lens passed. Assumes nothing.
use Rattle.std.proofs.Common.{◌≡◌, ◌-◌}
use Rattle.vector_formulas.specs.Vector.{vectors, vector_surface_numbers}
use Rattle.float_carry.proofs.Carries.{through}
use Rattle.float_carry.proofs.vectors.Carried.derivative.Given as goal

abbrev pub invariant-loop-len : goal.invariant-loop-len
invariant-loop-len l = l.total ≡ through vectors (vector_surface_numbers l.self.entries.now) l.self.u.now l.self.v.now l.n (l.len - 1)
