-- `given::first` meets its contract. Assumes nothing.
use Rattle.std.proofs.Common.{◌≡◌, false, sym, ◌∙◌, min, eqb, arith}
use borrow.Author.Tests.{ne_eqb}
use Rattle.refusals.specs.declared.Refusal.{Refusal}
use Rattle.refusals.specs.Number.{number}
use Rattle.refusals.proofs.Numbers.{number-pos}
use Rattle.given.specs.Given.{first}
use Rattle.given.proofs.first.Goals.{in_default-via-in-Err+in_default, in_default-via-in_default}
use Rattle.given.proofs.first.Goals as goal

not_0 : (r : Refusal) → eqb (number r) 0 ≡ false
not_0 r = ne_eqb (number r) 0 (λ z. absurd (omega (arith, number-pos r, z)))

-- both refuse
two : (x y : Refusal) → first (number x) (number y) ≡ min (number x) (number y)
unfolding first
two x y = rw (not_0 x, not_0 y)

pub returns-then-number : goal.returns-then-number
returns-then-number c =
    let w = c.in-Err-Err in
    let m : number w.y ≡ min (number w.x) (number w.y) = omega (arith, c.if-number.true, c.number.ensures, c.number-in-Err-Err.ensures) in
    rw (w.is-0, w.is-1) (m ∙ sym (two w.x w.y))

pub returns-else-number : goal.returns-else-number
returns-else-number c =
    let w = c.in-Err-Err in
    let m : number w.x ≡ min (number w.x) (number w.y) = omega (arith, c.if-number.false, c.number.ensures, c.number-in-Err-Err.ensures) in
    rw (w.is-0, w.is-1) (m ∙ sym (two w.x w.y))

pub returns-in_default : goal.returns-in_default
unfolding first
returns-in_default c =
    elim c.in_default.branch [
      | in_default-via-in-Err+in_default w ↦ rw (c.and.ensures, w.in_default.is-0, w.in_default.is-1, not_0 w.in_default.field-0-0)
      | in_default-via-in_default w ↦ rw (c.and.ensures, w.in_default.is-0)
    ]
