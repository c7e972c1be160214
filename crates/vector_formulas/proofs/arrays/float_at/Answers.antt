-- `vector_formulas::arrays::float_at` meets its contract. Assumes nothing.
use Rattle.std.proofs.Common.{sym, arith}
use lib.Ieee.{nan, of_bits, div}
use lib.ListN.{get_or-eq_default}
use Rattle.vector_formulas.proofs.arrays.float_at.Goals as goal

pub returns-then-a-i : goal.returns-then-a-i
unfolding div of_bits
returns-then-a-i c = sym (get_or-eq_default c.args.a.now nan (omega arith))
