-- `vector_formulas::arrays::store` meets its contract. Assumes nothing.
use Rattle.std.proofs.Common.{length-set, arith}
use Rattle.vector_formulas.proofs.arrays.store.Goals as goal

pub bounds-a-i-2 : goal.bounds-a-i-2
bounds-a-i-2 c = simp length-set (omega arith)
