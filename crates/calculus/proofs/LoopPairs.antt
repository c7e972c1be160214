-- The list of a parameter curve: how long it is, and the numbers that are left to write. Assumes nothing.
use Rattle.std.proofs.Common.{◌≡◌, refl, sym, ap, ◌∙◌, List, [], ◌∷◌, ℕ, zero, suc, ◌+◌, ◌-◌, ◌*◌, ◌≤◌, ◌<◌, add-one, arith, length}
use Rattle.calculus.specs.Order.{pairs}

pub pairs-length : {X : Type 0} (u v : ℕ → X) (i k : ℕ) → length (pairs u v i k) ≡ 2 * k
unfolding pairs
pairs-length u v i zero = refl
pairs-length u v i (suc k) = omega (arith, pairs-length u v (suc i) k)

-- ---- the numbers from those of the order m on
module _ {X : Type 0} (u v : ℕ → X) (n : ℕ) where
  abbrev pub pairs_left : ℕ → List X
  pairs_left m = pairs u v m (suc n - m)

  pub pairs_start : pairs u v 0 (suc n) ≡ pairs_left 0
  pairs_start =
      let e : suc n ≡ suc n - 0 = omega arith in
      ap (pairs u v 0) e

  pub pairs_next : (m : ℕ) → m ≤ n → pairs_left m ≡ u m ∷ (v m ∷ pairs_left (m + 1))
  unfolding pairs
  pairs_next m h =
      let e : suc n - m ≡ suc (suc n - (m + 1)) = omega arith in
      ap (pairs u v m) e ∙ ap (λ (k : ℕ). u m ∷ (v m ∷ pairs u v k (suc n - (m + 1)))) (sym (add-one m))

  pub pairs_end : {m : ℕ} → n < m → pairs_left m ≡ []
  unfolding pairs
  pairs_end {m} h =
      let e : suc n - m ≡ 0 = omega arith in
      ap (pairs u v m) e
