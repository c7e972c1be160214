-- Entries that stand among entries that pass a test pass it too. Assumes nothing.
use Rattle.std.proofs.Common.{◌≡◌, refl, sym, ap, ◌∙◌, Bool, true, false, ℕ, zero, suc, ◌<◌, le_refl, add-one, arith}
use Rattle.formulas.specs.Numbers.{all_pass}
use Rattle.formulas.proofs.Finite.{none, more, stop}

module _ {A : Type 0} (test : A → Bool) where
  each : (f : ℕ → A) (n k : ℕ) → k < n → all_pass test f n ≡ true → test (f k) ≡ true
  each f n k l e = go (test (f k)) refl
    where
      go : (b : Bool) → test (f k) ≡ b → b ≡ true
      go true q = refl
      go false q = stop test f n l q ∙ e

  all : (g : ℕ → A) (m : ℕ) → ((k : ℕ) → k < m → test (g k) ≡ true) → all_pass test g m ≡ true
  all g zero h = none test g
  all g (suc m) h = ap (all_pass test g) (sym (add-one m)) ∙ more test g m (all g m (λ k l. h k (omega arith))) (h m (le_refl (suc m)))

  pub pass-among : (f g : ℕ → A) (n m : ℕ) → ((k : ℕ) → k < m → (p : ℕ) × ((p < n) × (f p ≡ g k))) → all_pass test f n ≡ true → all_pass test g m ≡ true
  pass-among f g n m h e = all g m (λ k l. let p = h k l in ap test (sym p.1.1) ∙ each f n p.0 p.1.0 e)
