-- `formulas::derivative_u` meets its contract: no entry is read past the array's end. Assumes nothing.
use Rattle.std.proofs.Common.{◌∙◌, min, arith}
use Rattle.std.specs.Float.{nan}
use Rattle.ieee_vectors.specs.Vectors.{positive_zero}
use Rattle.calculus.proofs.LoopBlanks.{u-blanks}
use Rattle.formulas.proofs.derivative_u.Goals as goal

pub returns : goal.returns
returns c = c.derivative_u.ensures ∙ u-blanks positive_zero positive_zero nan c.args.a.now (min c.args.n 19) (omega arith) (omega arith)
