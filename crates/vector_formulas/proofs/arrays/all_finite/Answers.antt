-- `vector_formulas::arrays::all_finite` meets its contract. Assumes nothing.
use Rattle.std.proofs.Common.{◌∙◌}
use Rattle.vector_formulas.proofs.Vectors.{vectors-finite}
use Rattle.vector_formulas.proofs.arrays.all_finite.Goals as goal

pub returns : goal.returns
returns c = c.finite_list.ensures ∙ vectors-finite c.args.a.now c.args.n c.requires
