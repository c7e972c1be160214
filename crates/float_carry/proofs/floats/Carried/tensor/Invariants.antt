-- `float_carry::floats::Carried::tensor` meets its contract. The invariant: the sum of the terms of the masks passed. Assumes nothing.
use Rattle.std.proofs.Common.{◌≡◌}
use Rattle.calculus.specs.InTurn.{in_turn}
use Rattle.calculus.specs.Kind.{regular}
use Rattle.ieee_vectors.specs.Vectors.{positive_zero}
use Rattle.formulas.specs.Real.{real}
use Rattle.formulas.specs.Numbers.{surface_numbers}
use Rattle.float_carry.proofs.Carries.{term_of}
use Rattle.float_carry.proofs.floats.Carried.tensor.Given as goal

abbrev pub invariant-loop-mask : goal.invariant-loop-mask
invariant-loop-mask l = l.sum ≡ in_turn real.plus positive_zero (term_of (regular real) (surface_numbers l.self.entries.now) l.self.u.now l.self.v.now l.parts.list.now) l.mask
