-- `exact_formulas::index` meets its contract. Assumes nothing.
use Rattle.std.proofs.Common.{refl}
use Rattle.calculus.specs.Graded.{index}
use Rattle.calculus.proofs.LoopTable.{in_array}
use Rattle.exact_formulas.proofs.index.Goals as goal

pub returns : goal.returns
unfolding index
returns c = record { value = refl; inside = in_array c.args.i c.args.j refl c.requires }
