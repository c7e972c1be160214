-- What tests pick, once it is known which way each goes. Assumes nothing.
use Rattle.std.proofs.Common.{◌≡◌, refl, sym, ap, true≢false, is_err, Result, Ok, Err, cond, Bool, true, false}
use Rattle.std.specs.Prelude.{⊤}
use Rattle.refusals.specs.declared.Refusal.{Refusal}
use Rattle.calculus.specs.JetKind.{tested, above20}

-- the tests before the work, each with what is known of it
pub as-tested : {A : Type 0} (refused : Refusal → A) (r : A) (above20 unfit finite : Bool) {p q s : Bool} → above20 ≡ p → unfit ≡ q → finite ≡ s →
    tested refused p q s r ≡ tested refused above20 unfit finite r
as-tested refused r above20 unfit finite e f g = sym (λ i. tested refused (e i) (f i) (g i) r)

-- ---- a test that refuses, and did not
pub not-refused : (r : Refusal) (b : Bool) → ◌≡◌ {A = Result ⊤ Refusal} (cond b (Err r) (Ok tt)) (Ok tt) → b ≡ false
not-refused r false e = refl
not-refused r true e = absurd (true≢false (ap (λ (x : Result ⊤ Refusal). is_err x) e))
