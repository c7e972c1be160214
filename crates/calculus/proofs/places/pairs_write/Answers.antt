-- u and v are written side by side. Assumes nothing.
use Rattle.std.proofs.Common.{◌+◌, ◌*◌, ◌≡◌, suc, min, refl, arith}
use Rattle.calculus.specs.Order.{pairs}
use Rattle.calculus.proofs.LoopPlaces.{numbers_in}
use Rattle.calculus.proofs.LoopPairs.{pairs_left, pairs_start, pairs_next, pairs_end}
use Rattle.calculus.proofs.LoopWritten.{written-none, written-more, written-ends}
use Rattle.calculus.proofs.places.pairs_write.Goals as goal

pub loop-m-init : goal.loop-m-init
loop-m-init g c =
    let a = c.args in
    let u = numbers_in a.zero a.u.now in
    let v = numbers_in a.zero a.v.now in
    written-none (pairs u v 0 (suc (min a.n 20))) a.out.now (pairs_start u v (min a.n 20))

pub loop-m-preserved : goal.loop-m-preserved
loop-m-preserved g c =
    let a = c.args in
    let u = numbers_in a.zero a.u.now in
    let v = numbers_in a.zero a.v.now in
    let all = pairs u v 0 (suc (min a.n 20)) in
    let turn : 2 * c.loop-m.m + 1 + 1 ≡ 2 * (c.loop-m.m + 1) = omega arith in
    rw (c.put-in-loop-m.ensures, c.entry-in-loop-m.ensures, c.put.ensures, c.entry.ensures, ← turn)
    (written-more all a.out.now (written-more all a.out.now c.loop-m.invariant (pairs_next u v (min a.n 20) c.loop-m.m (omega (arith, c.min-m-end.ensures)))) refl)

pub returns : goal.returns
returns g c =
    let a = c.args in
    let u = numbers_in a.zero a.u.now in
    let v = numbers_in a.zero a.v.now in
    written-ends (pairs u v 0 (suc (min a.n 20))) a.out.now {left = pairs_left u v (min a.n 20) c.loop-m.m} c.loop-m.invariant (pairs_end u v (min a.n 20) (omega (arith, c.min-m-end.ensures)))
