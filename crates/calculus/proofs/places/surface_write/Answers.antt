-- The entries of an array are written in the order of a list. Assumes nothing.
use Rattle.std.proofs.Common.{suc, ap, ◌∙◌, ℕ, arith}
use Rattle.calculus.specs.Order.{surface_entries, overwritten}
use Rattle.calculus.proofs.Graded.{room-231}
use Rattle.calculus.proofs.LoopPlaces.{surface_in}
use Rattle.calculus.proofs.LoopLeft.{surface_left, surface-start, surface-next, surface-row, surface-end}
use Rattle.calculus.proofs.LoopWriting.{rows-length}
use Rattle.calculus.proofs.LoopWritten.{written-none, written-more, written-room, written-turns, written-ends}
use Rattle.calculus.proofs.places.surface_write.Goals as goal

pub loop-i-init : goal.loop-i-init
loop-i-init g c =
    let a = c.args in
    let s = surface_in a.zero a.a.now in
    written-none (surface_entries s c.min-n.result) a.out.now (surface-start s c.min-n.result)

pub overflow_add-l : goal.overflow_add-l
overflow_add-l g c =
    let a = c.args in
    let n = c.min-n.result in
    let s = surface_in a.zero a.a.now in
    omega (arith, written-room (surface_entries s n) a.out.now {left = surface_left s n c.loop-i.i c.loop-j.j} c.loop-j.invariant, rows-length s 0 (suc n), room-231 n (omega (arith, c.min-n.ensures)))

pub loop-j-preserved : goal.loop-j-preserved
loop-j-preserved g c =
    let a = c.args in
    let n = c.min-n.result in
    let s = surface_in a.zero a.a.now in
    rw (c.put.ensures, c.entry.ensures, c.index.ensures)
    (written-more (surface_entries s n) a.out.now c.loop-j.invariant (surface-next s n c.loop-i.i c.loop-j.j (omega arith)))

pub loop-i-preserved : goal.loop-i-preserved
loop-i-preserved g c =
    let a = c.args in
    let n = c.min-n.result in
    let s = surface_in a.zero a.a.now in
    written-turns (surface_entries s n) a.out.now c.loop-j.invariant (surface-row s n c.loop-i.i c.loop-j.j (omega arith))

pub returns : goal.returns
returns g c =
    let a = c.args in
    let s = surface_in a.zero a.a.now in
    written-ends (surface_entries s c.min-n.result) a.out.now {left = surface_left s c.min-n.result c.loop-i.i 0} c.loop-i.invariant (surface-end s c.min-n.result (omega arith))
    ∙ ap (λ (n : ℕ). overwritten (surface_entries s n) a.out.now) c.min-n.ensures
