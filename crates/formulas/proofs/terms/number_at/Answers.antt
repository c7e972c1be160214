-- `formulas::terms::number_at` meets its contract. Assumes nothing.
use Rattle.std.proofs.Common.{arith}
use Rattle.calculus.proofs.Graded.{index-231}
use Rattle.formulas.proofs.terms.number_at.Goals as goal

pub offset_bounds-a-index : goal.offset_bounds-a-index
offset_bounds-a-index c = omega (arith, c.index.ensures, index-231 c.args.i c.args.j c.requires)

pub bounds-a-index : goal.bounds-a-index
bounds-a-index c = omega (arith, c.index.ensures, index-231 c.args.i c.args.j c.requires)
