-- `vector_formulas::arrays::vector_at_end` meets its contract. Assumes nothing.
use Rattle.std.proofs.Common.{arith}
use lib.Ieee.{of_bits, div}
use Rattle.vector_formulas.proofs.Vectors.{past-at, end-at}
use Rattle.vector_formulas.proofs.arrays.vector_at_end.Goals as goal

pub returns-then-a-k : goal.returns-then-a-k
unfolding div of_bits
returns-then-a-k c = past-at c.args.a.now c.args.k (omega arith)

pub returns : goal.returns
unfolding div of_bits
returns c = end-at c.args.a.now c.args.k c.requires c.float_at-x.ensures c.float_at-y.ensures
