-- The number of 105 or 106 digits whose root `of_units` takes: m * 2 ^ j smallest values, shifted by an even count of places. Assumes nothing.
use Rattle.std.proofs.Common.{◌≡◌, refl, sym, ap, ◌∙◌, subst, ℕ, zero, suc, ◌+◌, ◌-◌, ◌*◌, ◌/◌, ◌%◌, ◌^◌, ◌≤◌, ◌<◌, le_antisymm, le_trans, le_of_eq, le_of_suc-le-suc, lt_of_lt_of_le, lt_of_not-le, not-le_of_lt, suc-add, mul_assoc, mul-le-mul_right, pow-suc, arith, lit≤, pow-add, pow_mono, shl_lt, shl_exact}
use native.Mathlib.Nat.{mul-mul-mul_comm}
use lib.Count.{count_leading_zeros, leading_top}
use lib.Ieee.{size}
use lib.Ieee.Digits.{size-lt, size-le}

-- ---- how many digits a number has
pub size_is : (i n : ℕ) → 2 ^ i ≤ n → n < 2 ^ suc i → size n ≡ suc i
size_is i n lo hi = le_antisymm (size-le n (suc i) hi) (lt_of_not-le (λ (g : size n ≤ i). not-le_of_lt (lt_of_lt_of_le (size-lt n) (pow_mono g)) lo))

pub size-shifted : (i n a : ℕ) → 2 ^ i ≤ n → n < 2 ^ suc i → size (n * 2 ^ a) ≡ suc (i + a)
size-shifted i n a lo hi =
    size_is (i + a) (n * 2 ^ a)
    (le_trans (le_of_eq (pow-add 2 i a)) (mul-le-mul_right (2 ^ a) lo))
    (subst (λ (x : ℕ). n * 2 ^ a < 2 ^ x) (suc-add i a) (shl_lt (suc i) a hi))

pub four-pow : (k : ℕ) → 4 ^ k ≡ 2 ^ (k + k)
four-pow k = squared k ∙ sym (pow-add 2 k k)
  where
    squared : (i : ℕ) → 4 ^ i ≡ 2 ^ i * 2 ^ i
    squared zero = refl
    squared (suc i) = pow-suc 4 i ∙ ap (λ (x : ℕ). x * 4) (squared i) ∙ mul-mul-mul_comm (2 ^ i) (2 ^ i) 2 2 ∙ sym (ap (λ (x : ℕ). x * x) (pow-suc 2 i))

-- where the highest digit of an m below 2 ^ 53 stands
pub record Place (m : ℕ) : Type 0 where
  pub at : ℕ
  pub zeros : count_leading_zeros 64 m + suc at ≡ 64
  pub low : 2 ^ at ≤ m
  pub high : m < 2 ^ suc at
  pub narrow : at ≤ 52

pub place : (m : ℕ) → 0 < m → m < 2 ^ 53 → Place m
place m p n =
    let t = leading_top 64 m p (lt_of_lt_of_le n (pow_mono {i = 53} {j = 64} (lit≤ tt))) in
    record {
      at = t.0;
      zeros = t.1;
      low = t.2;
      high = t.3;
      narrow = le_of_suc-le-suc (lt_of_not-le (λ (g : 53 ≤ t.0). not-le_of_lt n (le_trans (pow_mono g) t.2)));
    }

-- ---- how many digits of the root are dropped, and how far m is shifted
abbrev pub dropped : ℕ → ℕ → ℕ
dropped z j = (1033 - z + j) / 2

abbrev pub shift : ℕ → ℕ → ℕ
shift z j = j + 1032 - 2 * dropped z j

module _ (z i j : ℕ) (e : z + suc i ≡ 64) (n : i ≤ 52) where
  pub shift-room : 2 * dropped z j ≤ j + 1032
  shift-room = omega arith

  pub shift-high : suc i + shift z j ≤ 64
  shift-high = omega arith

  pub shift-low : 104 ≤ i + (shift z j + 42)
  shift-low = omega arith

  pub shift-even : shift z j + 42 + (dropped z j + dropped z j) ≡ j + 1074
  shift-even = omega arith

  pub dropped-is : (suc (i + (j + 1074)) + 1) / 2 - 53 ≡ dropped z j
  dropped-is = omega arith

-- ---- the number whose root is taken
module _ (m j : ℕ) (p : Place m) where
  pub word : m * 2 ^ shift (count_leading_zeros 64 m) j % 2 ^ 64 ≡ m * 2 ^ shift (count_leading_zeros 64 m) j
  word = shl_exact (suc p.at) (shift (count_leading_zeros 64 m) j) 64 p.high (shift-high (count_leading_zeros 64 m) p.at j p.zeros p.narrow)

  abbrev pub radicand : ℕ
  radicand = m * 2 ^ shift (count_leading_zeros 64 m) j * 2 ^ 42

  joined : radicand ≡ m * 2 ^ (shift (count_leading_zeros 64 m) j + 42)
  joined = mul_assoc m (2 ^ shift (count_leading_zeros 64 m) j) (2 ^ 42) ∙ ap (λ (x : ℕ). m * x) (sym (pow-add 2 (shift (count_leading_zeros 64 m) j) 42))

  pub radicand-low : 2 ^ 104 ≤ radicand
  radicand-low =
      let h = shift (count_leading_zeros 64 m) j + 42 in
      le_trans (pow_mono (shift-low (count_leading_zeros 64 m) p.at j p.zeros p.narrow))
      (le_trans (le_of_eq (pow-add 2 p.at h)) (le_trans (mul-le-mul_right (2 ^ h) p.low) (le_of_eq (sym joined))))

  pub radicand-is : m * 2 ^ j * 2 ^ 1074 ≡ radicand * 4 ^ dropped (count_leading_zeros 64 m) j
  radicand-is =
      let k = dropped (count_leading_zeros 64 m) j in
      let h = shift (count_leading_zeros 64 m) j + 42 in
      mul_assoc m (2 ^ j) (2 ^ 1074)
      ∙ ap (λ (x : ℕ). m * x) (sym (pow-add 2 j 1074) ∙ ap (λ (x : ℕ). 2 ^ x) (sym (shift-even (count_leading_zeros 64 m) p.at j p.zeros p.narrow)) ∙ pow-add 2 h (k + k))
      ∙ sym (mul_assoc m (2 ^ h) (2 ^ (k + k)))
      ∙ ap (λ (x : ℕ). x * 2 ^ (k + k)) (sym joined)
      ∙ ap (λ (x : ℕ). radicand * x) (sym (four-pow k))

  pub dropped-by-size : (size (m * 2 ^ j * 2 ^ 1074) + 1) / 2 - 53 ≡ dropped (count_leading_zeros 64 m) j
  dropped-by-size =
      ap (λ (x : ℕ). (size x + 1) / 2 - 53) (mul_assoc m (2 ^ j) (2 ^ 1074) ∙ ap (λ (x : ℕ). m * x) (sym (pow-add 2 j 1074)))
      ∙ ap (λ (x : ℕ). (x + 1) / 2 - 53) (size-shifted p.at m (j + 1074) p.low p.high)
      ∙ dropped-is (count_leading_zeros 64 m) p.at j p.zeros p.narrow
