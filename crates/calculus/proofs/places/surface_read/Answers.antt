-- The entries of a list stand in the array. Assumes nothing.
use Rattle.std.proofs.Common.{◌≤◌, ◌<◌, length, refl, ap, ◌∙◌, ℕ, get_or, arith, rules}
use borrow.Author.Rules.{scaled_fits≤}
use Rattle.calculus.specs.Order.{row_start, list_place}
use Rattle.calculus.specs.Array.{surface_array}
use Rattle.calculus.proofs.Graded.{room-231}
use Rattle.calculus.proofs.LoopPlaces.{row-turn, list-place}
use Rattle.calculus.proofs.LoopTable.{in_array}
use Rattle.calculus.proofs.LoopBlanks.{read-at}
use Rattle.calculus.proofs.LoopSurfaceFilled.{filled-none, filled-more, filled-row, filled-all}
use Rattle.calculus.proofs.places.surface_read.Goals as goal

pub loop-i-init : goal.loop-i-init
unfolding row_start
loop-i-init g c =
    let a = c.args in
    let b : c.min-n.result ≤ 20 = omega (arith, c.min-n.ensures) in
    (b, filled-none a.zero (λ i j. get_or a.list.now (list_place c.min-n.result i j) a.zero) b, refl)

pub offset_bounds-r-index : goal.offset_bounds-r-index
offset_bounds-r-index g c =
    let h : c.index.result < 231 = in_array c.loop-i.i c.loop-j.j c.index.ensures (omega arith) in
    let k : c.index.result ≤ length c.loop-j.r = omega (arith, h) in
    search (rules, scaled_fits≤)

pub bounds-r-index : goal.bounds-r-index
bounds-r-index g c = in_array c.loop-i.i c.loop-j.j c.index.ensures (omega arith)

pub listed : goal.listed
listed g c = omega (arith, in_array c.loop-i.i c.loop-j.j c.index.ensures (omega arith))

pub overflow_add-l : goal.overflow_add-l
overflow_add-l g c = omega (arith, room-231 c.min-n.result (omega (arith, c.min-n.ensures)), list-place c.min-n.result c.loop-i.i c.loop-j.j (omega arith), c.loop-j.invariant.2)

pub loop-j-preserved : goal.loop-j-preserved
loop-j-preserved g c =
    let a = c.args in
    let l = c.loop-j.invariant in
    (l.0, filled-more a.zero (λ i j. get_or a.list.now (list_place c.min-n.result i j) a.zero) l.0 l.1 (omega arith) (read-at a.zero a.list.now c.entry.ensures l.2) c.index.ensures, omega (arith, l.2))

pub loop-i-preserved : goal.loop-i-preserved
loop-i-preserved g c =
    let a = c.args in
    let l = c.loop-j.invariant in (
      l.0,
      filled-row a.zero (λ i j. get_or a.list.now (list_place c.min-n.result i j) a.zero) l.0 l.1 (omega arith),
      omega (arith, row-turn c.min-n.result c.loop-i.i, l.2),
    )

pub returns : goal.returns
returns g c =
    let a = c.args in
    let l = c.loop-i.invariant in
    filled-all a.zero (λ i j. get_or a.list.now (list_place c.min-n.result i j) a.zero) l.0 l.1 (omega arith)
    ∙ ap (λ (n : ℕ). surface_array a.zero (λ i j. get_or a.list.now (list_place n i j) a.zero) n) c.min-n.ensures
