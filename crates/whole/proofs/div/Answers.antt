-- `whole::div` meets its contract. Assumes nothing.
use Rattle.std.proofs.Common.{◌∙◌}
use Rattle.whole.proofs.Range.{of-bits}
use Rattle.whole.proofs.Quotients.{div-zero, div-minus-one, div-asks, div-exact, div-left}
use Rattle.whole.proofs.div.Goals as goal

pub returns-then-b-eq0 : goal.returns-then-b-eq0
returns-then-b-eq0 c = div-zero c.args.a (of-bits 0 c.ranges.b c.if-b-eq0.true)

pub returns-then-b-eqminus1 : goal.returns-then-b-eqminus1
returns-then-b-eqminus1 c =
    c.sub.ensures ∙ div-minus-one c.ranges.a (of-bits 18446744073709551615 c.ranges.b c.if-b-eqminus1.true)

pub nonzero_rem-a : goal.nonzero_rem-a
nonzero_rem-a c = div-asks c.ranges.a c.ranges.b c.if-b-eq0.false c.if-b-eqminus1.false

pub nonzero_div-result : goal.nonzero_div-result
nonzero_div-result c = div-asks c.ranges.a c.ranges.b c.if-b-eq0.false c.if-b-eqminus1.false

pub returns-then-a-b-eq0 : goal.returns-then-a-b-eq0
returns-then-a-b-eq0 c =
    div-exact c.ranges.a c.ranges.b c.if-b-eq0.false c.if-b-eqminus1.false c.if-a-b-eq0.true

pub returns-else-a-b-eq0 : goal.returns-else-a-b-eq0
returns-else-a-b-eq0 c =
    div-left c.ranges.a c.ranges.b c.if-b-eq0.false c.if-b-eqminus1.false c.if-a-b-eq0.false
