-- What is known once the tests before the work have answered an order: the order, and what a function on jets answers. Assumes nothing.
use Rattle.std.proofs.Common.{◌≡◌, Bool, true, false, cond, ◌&&◌, ◌||◌, ℕ, ◌≤◌, min, ltb, Result, Ok, Err, refl, sym, ◌∙◌, subst, ltb-false}
use Rattle.refusals.specs.declared.Refusal.{Refusal}
use Rattle.calculus.specs.JetKind.{tested, above20}
use Rattle.calculus.proofs.Tested.{near-at}
use Rattle.calculus.proofs.Passed.{Passed, passed, common-low, common-worked}
use Rattle.derivatives.specs.Jets.{one_at, both_at, asked_at}

-- ---- a test of the work: what is answered where it is met, and where it is not
module _ {B : Type 0} {t b : Bool} (r s : B) where
  pub met : t ≡ b → t ≡ true → r ≡ cond b r s
  met h e = rw (sym h ∙ e)

  pub not-met : t ≡ b → t ≡ false → s ≡ cond b r s
  not-met h e = rw (sym h ∙ e)

-- ---- one jet, at its order
module _ (n : ℕ) (f : ℕ → Bool) {k : ℕ} (e : one_at n f ≡ Ok k) where
  one-passed : Passed (ltb 20 n) false (f n) n k
  one-passed = passed (ltb 20 n) false (f n) e

  pub one-low : k ≤ 20
  one-low = let h = one-passed in subst (λ (x : ℕ). x ≤ 20) h.same (ltb-false 20 n h.low)

  pub one-worked : {C : Type 0} (op : ℕ → Result C Refusal) → op k ≡ tested Err (ltb 20 n) false (f n) (op n)
  one-worked op = let h = one-passed in rw (h.low, h.finite, h.same)

-- ---- two jets, at the smaller order and at one that is asked: the order, and the work's answer
module _ (m n : ℕ) (f g : ℕ → Bool) where
  module _ {k : ℕ} (e : both_at m n f g ≡ Ok k) where
    pub both-low : k ≤ 20
    both-low = common-low m n (f (min m n) && g (min m n)) e

    pub both-worked : {C : Type 0} (op : ℕ → Result C Refusal) → op k ≡ tested Err (above20 m n) false (f (min m n) && g (min m n)) (op (min m n))
    both-worked = common-worked m n (f (min m n) && g (min m n)) e

  module _ (k : ℕ) {l : ℕ} (e : asked_at m n k f g ≡ Ok l) where
    asked-passed : Passed (above20 m n || ltb 20 k) (ltb (min m n) k) (f k && g k) k l
    asked-passed = passed (above20 m n || ltb 20 k) (ltb (min m n) k) (f k && g k) e

    pub asked-low : l ≤ 20
    asked-low = let h = asked-passed in subst (λ (x : ℕ). x ≤ 20) h.same (near-at m n k refl h.low)

    pub asked-worked : {C : Type 0} (op : ℕ → Result C Refusal) → op l ≡ tested Err (above20 m n || ltb 20 k) (ltb (min m n) k) (f k && g k) (op k)
    asked-worked op = let h = asked-passed in rw (h.low, h.fits, h.finite, h.same)
