-- The entries of the derivative stand in the array. Assumes nothing.
use Rattle.std.proofs.Common.{◌+◌, ◌≤◌, ◌<◌, length, get_or, arith, rules}
use borrow.Author.Rules.{scaled_fits≤}
use Rattle.calculus.specs.Graded.{index}
use Rattle.calculus.proofs.LoopTable.{in_array}
use Rattle.calculus.proofs.LoopBlanks.{read-at}
use Rattle.calculus.proofs.LoopSurfaceFilled.{filled-none, filled-more, filled-row, filled-all}
use Rattle.calculus.proofs.places.shifted.Goals as goal

pub loop-i-init : goal.loop-i-init
loop-i-init g c =
    let a = c.args in
    let b : a.n ≤ 20 = omega arith in
    (b, filled-none a.zero (λ i j. get_or a.a.now (index (i + a.p) (j + a.q)) a.zero) b)

pub offset_bounds-r-index : goal.offset_bounds-r-index
offset_bounds-r-index g c =
    let h : c.index-in-loop-j.result < 231 = in_array c.loop-i.i c.loop-j.j c.index-in-loop-j.ensures (omega arith) in
    let k : c.index-in-loop-j.result ≤ length c.loop-j.r = omega (arith, h) in
    search (rules, scaled_fits≤)

pub bounds-r-index : goal.bounds-r-index
bounds-r-index g c = in_array c.loop-i.i c.loop-j.j c.index-in-loop-j.ensures (omega arith)

pub listed : goal.listed
listed g c = omega (arith, in_array c.loop-i.i c.loop-j.j c.index-in-loop-j.ensures (omega arith))

pub loop-j-preserved : goal.loop-j-preserved
loop-j-preserved g c =
    let a = c.args in
    let l = c.loop-j.invariant in
    (l.0, filled-more a.zero (λ i j. get_or a.a.now (index (i + a.p) (j + a.q)) a.zero) l.0 l.1 (omega arith) (read-at a.zero a.a.now c.entry.ensures c.index.ensures) c.index-in-loop-j.ensures)

pub loop-i-preserved : goal.loop-i-preserved
loop-i-preserved g c =
    let a = c.args in
    let l = c.loop-j.invariant in
    (l.0, filled-row a.zero (λ i j. get_or a.a.now (index (i + a.p) (j + a.q)) a.zero) l.0 l.1 (omega arith))

pub returns : goal.returns
returns g c =
    let a = c.args in
    let l = c.loop-i.invariant in
    filled-all a.zero (λ i j. get_or a.a.now (index (i + a.p) (j + a.q)) a.zero) l.0 l.1 (omega arith)
