use Rattle.std.proofs.Common.{sym, ◌∙◌, inl, inr, rules}
use Rattle.partitions.proofs.Slices.{falls-stops, falls-on, falls-past}
use Rattle.partitions.proofs.inner.falls.Goals as goal
use Rattle.partitions.proofs.inner.falls.Goals.{then-a-eq0-via-then-a-eq0, then-a-eq0-via-else-a-eq0+then-last-a}

pub returns-then-a-eq0 : goal.returns-then-a-eq0
returns-then-a-eq0 c =
    let l = c.loop-a in
    let stops = falls-stops l.last c.args.list.now l.a-index (search rules) in
    sym (l.invariant ∙ elim c.then-a-eq0.branch [
      | then-a-eq0-via-then-a-eq0 w ↦ stops (inl w.if-a-eq0.true)
      | then-a-eq0-via-else-a-eq0+then-last-a w ↦ stops (inr (w.if-a-eq0.false, w.if-last-a.true))
    ])

pub loop-a-preserved : goal.loop-a-preserved
loop-a-preserved c = let l = c.loop-a in l.invariant ∙ falls-on l.last c.args.list.now l.a-index (search rules) c.if-a-eq0.false c.if-last-a.false

pub returns : goal.returns
returns c = let l = c.loop-a in sym (l.invariant ∙ falls-past l.last c.args.list.now l.a-index (search rules))
