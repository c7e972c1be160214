use Rattle.ieee.proofs.Recurrence.{stays, takes, renamed}
use Rattle.ieee.proofs.root.digits.Goals as goal
use Rattle.ieee.proofs.root.digits.Goals.{then-root-rest, else-root-rest}

pub loop-turn-preserved : goal.loop-turn-preserved
loop-turn-preserved c =
    let w = c.args.w in
    let l = c.loop-turn in
    let more = c.loop-turn-test.true in
    elim c.if-root-rest.branch [
      | then-root-rest a ↦ renamed a.root-is a.rest-is (takes w l.root l.rest l.left l._turn l.invariant more a.if-root-rest.true)
      | else-root-rest a ↦ renamed a.root-is a.rest-is (stays w l.root l.rest l.left l._turn l.invariant more a.if-root-rest.false)
    ]
