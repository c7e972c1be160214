-- What is known once the tests before the work have been passed: what they answered, and that the work's answer is the whole answer. Assumes nothing.
use Rattle.std.proofs.Common.{◌≡◌, refl, sym, ap, subst, Bool, true, false, cond, ℕ, ◌+◌, ◌-◌, ◌≤◌, min, arith, ltb, eqb, ltb-false}
use borrow.Author.Tests.{eqb-false}
use Rattle.std.specs.Prelude.{Result, Ok, Err, ⊤}
use Rattle.refusals.specs.declared.Refusal.{Refusal}
use Rattle.refusals.specs.declared.Refusal.TheVariants.{OrderAbove20, Shape}
use Rattle.calculus.specs.JetKind.{tested, above20}
use Rattle.calculus.proofs.Tested.{near}

module _ {A : Type 0} where
  abbrev answer : Result A Refusal → Type 0
  answer (Ok y) = ⊤
  answer (Err r) = ⊥

  abbrev got : A → Result A Refusal → A
  got x (Ok y) = y
  got x (Err r) = x

  refused : {r : Refusal} {y : A} → Err r ≡ Ok y → ⊥
  refused e = subst answer (sym e) tt

  pub record Passed (p q t : Bool) (x y : A) : Type 0 where
    pub low : p ≡ false
    pub fits : q ≡ false
    pub finite : t ≡ true
    pub same : x ≡ y

  pub passed : (p q t : Bool) {x y : A} → tested Err p q t (Ok x) ≡ Ok y → Passed p q t x y
  passed true q t e = absurd (refused e)
  passed false true t e = absurd (refused e)
  passed false false false e = absurd (refused e)
  passed false false true {x} e = record { low = refl; fits = refl; finite = refl; same = ap (got x) e }

-- ---- two jets, at the smaller order
module _ (m n : ℕ) (t : Bool) {k : ℕ} (e : tested Err (above20 m n) false t (Ok (min m n)) ≡ Ok k) where
  pub common-low : k ≤ 20
  common-low = let h = passed (above20 m n) false t e in near m n refl h.low (sym h.same)

  pub common-worked : {C : Type 0} (op : ℕ → Result C Refusal) → op k ≡ tested Err (above20 m n) false t (op (min m n))
  common-worked op = let h = passed (above20 m n) false t e in rw (h.low, h.finite, h.same)

-- ---- a derivative, at the order below
module _ (n : ℕ) (t : Bool) {k : ℕ} (e : tested Err (ltb 20 n) (eqb n 0) t (Ok (n - 1)) ≡ Ok k) where
  pub less-order : n ≡ k + 1
  less-order = let h = passed (ltb 20 n) (eqb n 0) t e in omega (arith, h.same, eqb-false n 0 h.fits)

  pub less-low : n ≤ 20
  less-low = ltb-false 20 n (passed (ltb 20 n) (eqb n 0) t e).low

  pub less-worked : {C : Type 0} (op : ℕ → Result C Refusal) → op k ≡ tested Err (ltb 20 n) (eqb n 0) t (op (n - 1))
  less-worked op = let h = passed (ltb 20 n) (eqb n 0) t e in rw (h.low, h.fits, h.finite, h.same)

-- ---- a list that fits
abbrev Fits : Type 0
Fits = Result ⊤ Refusal

pub fitting : (p q : Bool) → cond {A = Fits} p (Err OrderAbove20) (cond q (Ok tt) (Err Shape)) ≡ Ok tt → (p ≡ false) × (q ≡ true)
fitting true q e = absurd (refused e)
fitting false true e = (refl, refl)
fitting false false e = absurd (refused e)
