-- `float_carry::vectors::Carried::summand` meets its contract. Assumes nothing.
use Rattle.std.proofs.Common.{ap₂, ◌∙◌}
use Rattle.ieee_vectors.specs.Vectors.{multiple}
use Rattle.float_carry.proofs.vectors.Carried.summand.Goals as goal

pub returns : goal.returns
returns c = c.mul.ensures ∙ ap₂ multiple c.tensor.ensures c.multiplicity.ensures
