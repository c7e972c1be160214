-- `calculus::choose` meets its contract: the table is Pascal's triangle, row by row. Assumes nothing.
use Rattle.std.proofs.Common.{ℕ, List, ◌+◌, ap, sym, ◌∙◌, get_or, le-ltb}
use Rattle.calculus.specs.Graded.{triangle}
use Rattle.calculus.proofs.Binom.{binom-above}
use Rattle.calculus.proofs.LoopPascal.{sums, pascal, whole-table, binomial-at}
use Rattle.calculus.proofs.choose.Goals as goal

pub returns-then-m-i : goal.returns-then-m-i
returns-then-m-i c = rw (le-ltb 20 c.args.m c.if-m-gt20.false) (sym (binom-above c.args.m c.args.i c.if-m-i.true))

pub returns : goal.returns
unfolding pascal sums triangle
returns c =
    rw (le-ltb 20 c.args.m c.if-m-gt20.false)
    (ap (λ (t : List ℕ). get_or t (triangle c.args.m + c.args.i) 0) whole-table ∙ binomial-at c.args.m c.args.i c.if-m-i.false c.if-m-gt20.false)
