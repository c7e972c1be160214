-- `float_carry::floats::Carried::summand` meets its contract. Assumes nothing.
use Rattle.std.proofs.Common.{ap₂}
use Rattle.formulas.specs.Real.{real}
use Rattle.float_carry.proofs.floats.Carried.summand.Goals as goal

pub returns : goal.returns
returns c = ap₂ real.times c.tensor.ensures c.multiplicity.ensures
