-- Numbers with their history whose divisions are all exact: a division without a remainder keeps them so, and one that is answered leaves none.
-- Assumes nothing.
use Rattle.std.proofs.Common.{true, false, [], ◌∷◌, ◌≡◌, eqb, ℤ, nat_abs, Ok, ap, ◌∙◌, subst, sym}
use Rattle.std.specs.Int.Signed.{quot_z, rem_z}
use Rattle.whole.specs.Checked
use Rattle.whole.specs.History.{forms, divides, Traced, Verdict, settle, bare, verdict, traced_over}
use Rattle.whole.proofs.History.{settle-over, exact-then, exact-division, answered-value, settle-answered}
use Rattle.whole.proofs.Answers.{both-answered, divided-answered}
use Rattle.exact.proofs.Judged.{Sound, exact_none}

-- a division without a remainder
pub sound-over : (t : Traced) (x y : ℤ) → Sound t x → eqb (nat_abs y) 0 ≡ false → eqb (nat_abs (rem_z x y)) 0 ≡ true → Sound (traced_over t (bare y)) (quot_z x y)
sound-over t x y p h k = (
  ap (λ z. quot_z z y) p.0,
  exact-then quot_z (λ x y. divides x y ∷ (forms (quot_z x y) ∷ [])) t (bare y) p.1 exact_none
      (exact-division t.value y h (subst (λ z. eqb (nat_abs (rem_z z y)) 0 ≡ true) (sym p.0) k)),
)

-- a division that is answered was one
pub over-answered : (t : Traced) (y : ℤ) → ◌≡◌ {A = Verdict} (verdict (traced_over t (bare y)).history) (Ok tt) →
    (eqb (nat_abs y) 0 ≡ false) × (eqb (nat_abs (rem_z t.value y)) 0 ≡ true)
over-answered t y h =
    let a = both-answered Checked.divided (settle t) (settle (bare y)) (sym (settle-over t (bare y)) ∙ settle-answered (traced_over t (bare y)) h) in
    let d = divided-answered a.left a.right a.result in
    let l = answered-value t a.left_is in
    let r = answered-value (bare y) a.right_is in (
      subst (λ z. eqb (nat_abs z) 0 ≡ false) (sym r) d.0,
      subst (λ z. eqb (nat_abs (rem_z z y)) 0 ≡ true) (sym l) (subst (λ z. eqb (nat_abs (rem_z a.left z)) 0 ≡ true) (sym r) d.1),
    )
