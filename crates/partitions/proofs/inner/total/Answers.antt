use Rattle.std.proofs.Common.{◌≡◌, Some, ap, arith, rules, lt-ltb, le-ltb}
use Rattle.partitions.specs.Parts.{total}
use Rattle.partitions.proofs.Slices.{total-at, nothing-past}
use Rattle.partitions.proofs.inner.total.Goals as goal

pub returns-then-sum-gt20 : goal.returns-then-sum-gt20
returns-then-sum-gt20 c =
    let l = c.args.list.now in
    let more = total-at l c.loop-a.a-index (search rules) in
    rw (lt-ltb 20 (total l) (omega (arith, more, c.loop-a.invariant.0, c.loop-a.invariant.1)))

pub loop-a-preserved : goal.loop-a-preserved
loop-a-preserved c =
    let l = c.args.list.now in
    (search rules, omega (arith, total-at l c.loop-a.a-index (search rules), c.loop-a.invariant.1))

pub returns : goal.returns
returns c =
    let l = c.args.list.now in
    let all : c.loop-a.sum ≡ total l = omega (arith, nothing-past l c.loop-a.a-index (search rules), c.loop-a.invariant.1) in
    rw (le-ltb 20 (total l) (omega (arith, all, c.loop-a.invariant.0))) (ap Some all)
