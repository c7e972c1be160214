use Rattle.std.proofs.Common.{◌≡◌, ℕ, suc, ◌+◌, ◌-◌, ◌*◌, ◌≤◌, min, ◌∷◌, ap, sym, ◌∙◌, arith, length}
use Rattle.ieee_vectors.specs.declared.Vector3.{Vector3}
use Rattle.calculus.specs.Graded.{triangle}
use Rattle.calculus.specs.Order.{surface_entries}
use Rattle.calculus.proofs.Graded.{room-231}
use Rattle.calculus.proofs.LoopCut.{uncut-entry}
use Rattle.calculus.proofs.LoopLeft.{surface_left, surface-start, surface-next, surface-row, surface-end}
use Rattle.calculus.proofs.LoopWriting.{writing_begins, writing-turns, writing-ends, rows-length}
use Rattle.vector_formulas.specs.Vector.{flat, vector_surface_numbers}
use Rattle.vector_formulas.proofs.Vectors.{flat-length, stored-put}
use Rattle.vector_derivatives.proofs.Listed.{three-in-list, three-more}
use Rattle.vector_derivatives.proofs.surface.written.Goals as goal

listed-length : (s : ℕ → ℕ → Vector3) (n : ℕ) → length (flat (surface_entries s n)) ≡ 3 * triangle (suc n)
listed-length s n = flat-length (surface_entries s n) ∙ ap (◌*◌ 3) (rows-length s 0 (suc n))

-- what is written next
next : (s : ℕ → ℕ → Vector3) (n i j : ℕ) {v : Vector3} → n ≤ 20 → i + j ≤ n → v ≡ s (min i 20) (min j (20 - min i 20)) → surface_left s n i j ≡ v ∷ surface_left s n i (j + 1)
next s n i j l h e = surface-next s n i j h ∙ ap (λ (v : Vector3). v ∷ surface_left s n i (j + 1)) (sym (e ∙ uncut-entry s (omega arith)))

pub loop-i-init : goal.loop-i-init
loop-i-init c =
    let a = c.args.a.now in
    let s = vector_surface_numbers a.entries in
    writing_begins (flat (surface_entries s a.order)) c.args.out.now (ap flat (surface-start s a.order)) (c.requires.1 ∙ sym (listed-length s a.order))

pub overflow_add-l : goal.overflow_add-l
overflow_add-l c =
    let a = c.args.a.now in
    let s = vector_surface_numbers a.entries in
    let l = c.loop-j in
    let h = three-in-list (flat (surface_entries s a.order)) l.l l.invariant (next s a.order c.loop-i.i l.j c.requires.0 (omega arith) c.surface_at.ensures) in
    omega (arith, h, l.invariant.long, listed-length s a.order, room-231 a.order c.requires.0)

pub loop-j-preserved : goal.loop-j-preserved
loop-j-preserved c =
    let a = c.args.a.now in
    let s = vector_surface_numbers a.entries in
    let l = c.loop-j in
    let all = flat (surface_entries s a.order) in
    let e = next s a.order c.loop-i.i l.j c.requires.0 (omega arith) c.surface_at.ensures in
    three-more all l.l l.invariant e (c.store.ensures ∙ stored-put l.out l.l c.surface_at.result (three-in-list all l.l l.invariant e))

pub loop-i-preserved : goal.loop-i-preserved
loop-i-preserved c =
    let a = c.args.a.now in
    let s = vector_surface_numbers a.entries in
    writing-turns (flat (surface_entries s a.order)) c.loop-j.invariant (ap flat (surface-row s a.order c.loop-i.i c.loop-j.j (omega arith)))

pub returns : goal.returns
unfolding flat
returns c =
    let a = c.args.a.now in
    let s = vector_surface_numbers a.entries in
    writing-ends (flat (surface_entries s a.order)) c.loop-i.invariant (ap flat (surface-end s a.order (omega arith)))
