-- `leib X m`, the sum of (m choose i) X i (m − i), by Leibniz's recursion; and that it is that sum, by Pascal's rule.
-- Assumes nothing.
use Rattle.std.proofs.Common.{◌≡◌, refl, sym, ◌∙◌, ap, ap₂, ℕ, zero, suc, ◌+◌, ◌-◌, ◌<◌, arith, ℤ, pos}
use native.Mathlib.Nat.{suc-sub-suc}
use Rattle.calculus.proofs.Ints.{◌⊕◌, ◌⊗◌, sum}
use Rattle.calculus.specs.Choose.{choose as binom}
use Rattle.calculus.proofs.Ring.{sums, zeros, mul-add, mul-one, add_comm, add_left_comm, pos-add}
use Rattle.calculus.proofs.Sums.{sum-cong, sum-front, sum-linear, Linear}

unfoldable pub leib : (ℕ → ℕ → ℤ) → ℕ → ℤ
leib X zero = X 0 0
leib X (suc m) = leib (λ i j. X (suc i) j) m ⊕ leib (λ i j. X i (suc j)) m

pub choose-first : (m : ℕ) → binom m 0 ≡ 1
unfolding binom
choose-first zero = refl
choose-first (suc m) = refl

pub binom-above : (n k : ℕ) → n < k → binom n k ≡ 0
unfolding binom
binom-above zero zero h = omega arith
binom-above zero (suc k) h = refl
binom-above (suc n) zero h = omega arith
binom-above (suc n) (suc k) h = let p = binom-above n k (omega arith) in let q = binom-above n (suc k) (omega arith) in omega arith

-- Pascal's rule, summed
module _ (X : ℕ → ℕ → ℤ) (m : ℕ) where
  left : ℕ → ℤ
  left i = X (suc i) (m - i) ⊗ pos (binom m i)

  right : ℕ → ℤ
  right i = X (suc i) (suc m - suc i) ⊗ pos (binom m (suc i))

  whole : ℕ → ℤ
  whole i = X i (suc m - i) ⊗ pos (binom m i)

  split : (i : ℕ) → X (suc i) (suc m - suc i) ⊗ pos (binom (suc m) (suc i)) ≡ left i ⊕ right i
  unfolding left right binom
  split i = simp (suc-sub-suc, pos-add, mul-add)

  top : sum (suc (suc m)) whole ≡ sum (suc m) whole
  unfolding sum whole
  top = ap (λ n. sum (suc m) whole ⊕ X (suc m) (suc m - suc m) ⊗ pos n) (binom-above m (suc m) (omega arith)) ∙ simp zeros

  pub pascal :
      sum (suc (suc m)) (λ i. X i (suc m - i) ⊗ pos (binom (suc m) i))
      ≡ sum (suc m) (λ i. X (suc i) (m - i) ⊗ pos (binom m i)) ⊕ sum (suc m) (λ i. X i (suc (m - i)) ⊗ pos (binom m i))
  unfolding left whole right
  pascal =
      sum-front (suc m) (λ i. X i (suc m - i) ⊗ pos (binom (suc m) i))
      ∙ ap (λ x. X 0 (suc m - 0) ⊗ pos (binom (suc m) 0) ⊕ x) (sum-cong (suc m) (λ i h. split i) ∙ (sum-linear (suc m)).plus left right)
      ∙ ap (λ (n : ℕ). X 0 (suc m - 0) ⊗ pos n ⊕ (sum (suc m) left ⊕ sum (suc m) right)) (choose-first (suc m) ∙ sym (choose-first m))
      ∙ add_left_comm (whole 0) (sum (suc m) left) (sum (suc m) right)
      ∙ ap (λ x. sum (suc m) left ⊕ x)
      (sym (sum-front (suc m) whole) ∙ top ∙ sum-cong (suc m) (λ i h. ap (λ n. X i n ⊗ pos (binom m i)) (lower i h)))
    where
      lower : (i : ℕ) → i < suc m → suc m - i ≡ suc (m - i)
      lower i h = omega arith

pub leib-is : (X : ℕ → ℕ → ℤ) (m : ℕ) → sum (suc m) (λ i. X i (m - i) ⊗ pos (binom m i)) ≡ leib X m
unfolding leib sum binom
leib-is X zero = simp (zeros, mul-one)
leib-is X (suc m) = pascal X m ∙ ap₂ (λ x y. x ⊕ y) (leib-is (λ i j. X (suc i) j) m) (leib-is (λ i j. X i (suc j)) m)

-- it is linear, and symmetric, and reads X only where i + j is m
pub leib-plus : (X Y : ℕ → ℕ → ℤ) (m : ℕ) → leib (λ i j. X i j ⊕ Y i j) m ≡ leib X m ⊕ leib Y m
unfolding leib
leib-plus X Y zero = refl
leib-plus X Y (suc m) =
    ap₂ (λ x y. x ⊕ y) (leib-plus (λ i j. X (suc i) j) (λ i j. Y (suc i) j) m) (leib-plus (λ i j. X i (suc j)) (λ i j. Y i (suc j)) m) ∙ simp sums

pub leib-times : (c : ℤ) (X : ℕ → ℕ → ℤ) (m : ℕ) → leib (λ i j. c ⊗ X i j) m ≡ c ⊗ leib X m
unfolding leib
leib-times c X zero = refl
leib-times c X (suc m) = ap₂ (λ x y. x ⊕ y) (leib-times c (λ i j. X (suc i) j) m) (leib-times c (λ i j. X i (suc j)) m) ∙ sym (mul-add c _ _)

pub leib-linear : (n : ℕ) → Linear {X = ℕ × ℕ} (λ f. leib (λ i j. f (i, j)) n)
leib-linear n = record { plus = λ f g. leib-plus (λ i j. f (i, j)) (λ i j. g (i, j)) n; times = λ c f. leib-times c (λ i j. f (i, j)) n }

pub leib-flip : (X : ℕ → ℕ → ℤ) (m : ℕ) → leib X m ≡ leib (λ i j. X j i) m
unfolding leib
leib-flip X zero = refl
leib-flip X (suc m) = ap₂ (λ x y. x ⊕ y) (leib-flip (λ i j. X (suc i) j) m) (leib-flip (λ i j. X i (suc j)) m) ∙ add_comm _ _

pub leib-cong : (m : ℕ) {X Y : ℕ → ℕ → ℤ} → ((i j : ℕ) → i + j ≡ m → X i j ≡ Y i j) → leib X m ≡ leib Y m
unfolding leib
leib-cong zero h = h 0 0 refl
leib-cong (suc m) h = ap₂ (λ x y. x ⊕ y) (leib-cong m (λ i j e. h (suc i) j (omega arith))) (leib-cong m (λ i j e. h i (suc j) (omega arith)))
