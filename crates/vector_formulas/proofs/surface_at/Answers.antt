-- `vector_formulas::surface_at` meets its contract: an index that is cut is within the array. Assumes nothing.
use Rattle.std.proofs.Common.{◌-◌, min, arith}
use Rattle.calculus.proofs.Graded.{index-231}
use Rattle.vector_formulas.proofs.surface_at.Goals as goal

pub vector_at-requires : goal.vector_at-requires
vector_at-requires c = omega (arith, c.index.ensures, index-231 (min c.args.i 20) (min c.args.j (20 - min c.args.i 20)) (omega arith))
