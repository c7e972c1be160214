-- `unchecked_sqrt` meets its contract, case by case. Assumes nothing.
use Rattle.std.proofs.Common.{sym, ◌∙◌}
use Rattle.ieee.proofs.Cases.{is_positive, at-infinity, at_zero, below-zero}
use Rattle.ieee.proofs.unchecked_sqrt.Goals as goal

pub of_positive-requires : goal.of_positive-requires
of_positive-requires c =
    is_positive c.args.x c.if-x.true (sym c.is_finite.ensures ∙ c.if-is_finite.true)

pub returns-then-x : goal.returns-then-x
returns-then-x c =
    at-infinity c.args.x c.if-x.true (sym c.is_finite.ensures ∙ c.if-is_finite.false)

pub returns-then-x-2 : goal.returns-then-x-2
returns-then-x-2 c = at_zero c.args.x c.if-x-2.true

pub returns : goal.returns
returns c = below-zero c.args.x c.if-x.false c.if-x-2.false
