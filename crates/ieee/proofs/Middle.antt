-- On whole numbers: √r * 2 ^ k, rounded to q or q + 1 times 2 ^ k, is nearer to that than to any other n * 2 ^ i with an n of 53 digits at most.
-- Assumes nothing.
use Rattle.std.proofs.Common.{◌≡◌, sym, ap, ◌∙◌, subst, Bool, true, false, not, cond, ℕ, suc, ◌+◌, ◌-◌, ◌*◌, ◌^◌, ◌≤◌, ◌<◌, le_trans, le_of_eq, le_of_lt, le_of_suc-le-suc, lt_of_lt_of_le, lt_of_le_of_lt, lt_of_not-le, lt_irrefl, not-le_of_lt, add-mul, one-mul, mul_assoc, mul-le-mul, mul-le-mul_right, mul-lt-mul_of_pos_right, lt_of_mul-lt-mul_right, mul-pos, add-one, arith, T, leb, ltb, leb→le, ltb→lt, nltb→le, pow-add, pow_pos, pow_mono, shl_lt}
use native.Mathlib.Nat.{mul-lt-mul_of_pos_left, mul-mul-mul_comm}
use lib.Dec.{nleb→lt}
use lib.Ieee.Digits.{back}
use Rattle.ieee.proofs.Isqrt.{square-more, square-twice}
use Rattle.ieee.proofs.Rounded.{past-middle, before-middle}
use Rattle.ieee.proofs.Units.{up-or-down}

-- ---- squares keep the order, and a common factor goes out of them
positive : (a b : ℕ) → a < b → 0 < b
positive a b h = omega arith

square-lt : (a b : ℕ) → a < b → a * a < b * b
square-lt a b h = lt_of_le_of_lt (mul-le-mul_right a (le_of_lt h)) (mul-lt-mul_of_pos_left h (positive a b h))

square_le : (a b : ℕ) → a ≤ b → a * a ≤ b * b
square_le a b h = mul-le-mul h h

-- 4 * r < b² gives 4 * r * c² < s², for an s of b * c at least; and so the other way
over_by : (r b c s : ℕ) → 4 * r < b * b → 0 < c → b * c ≤ s → 4 * (r * (c * c)) < s * s
over_by r b c s h p l =
    lt_of_lt_of_le
    (lt_of_le_of_lt (le_of_eq (sym (mul_assoc 4 r (c * c)))) (mul-lt-mul_of_pos_right h (mul-pos p p)))
    (le_trans (le_of_eq (mul-mul-mul_comm b b c c)) (square_le (b * c) s l))

under-by : (r b c s : ℕ) → b * b < 4 * r → 0 < c → s ≤ b * c → s * s < 4 * (r * (c * c))
under-by r b c s h p l =
    lt_of_le_of_lt
    (le_trans (square_le s (b * c) l) (le_of_eq (mul-mul-mul_comm b c b c)))
    (lt_of_lt_of_le (mul-lt-mul_of_pos_right h (mul-pos p p)) (le_of_eq (mul_assoc 4 r (c * c))))

under-by' : (r b c s : ℕ) → b * b ≤ 4 * r → s < b * c → s * s < 4 * (r * (c * c))
under-by' r b c s h l =
    lt_of_lt_of_le (square-lt s (b * c) l)
    (le_trans (le_of_eq (mul-mul-mul_comm b c b c)) (le_trans (mul-le-mul_right (c * c) h) (le_of_eq (mul_assoc 4 r (c * c)))))

-- ---- no value of 53 digits lies between q * 2 ^ k and (q + 1) * 2 ^ k
room : (i k : ℕ) → i < k → 53 + i ≤ 52 + k
room i k h = omega arith

next : (q k n i : ℕ) → 2 ^ 52 ≤ q → n < 2 ^ 53 → q * 2 ^ k < n * 2 ^ i → (q + 1) * 2 ^ k ≤ n * 2 ^ i
next q k n i f d h = go (leb k i) (leb→le k i) (nleb→lt k i)
  where
    go : (b : Bool) → (T b → k ≤ i) → (T (not b) → i < k) → (q + 1) * 2 ^ k ≤ n * 2 ^ i
    go true l g =
        let e : n * 2 ^ i ≡ n * 2 ^ (i - k) * 2 ^ k = ap (λ (x : ℕ). n * 2 ^ x) (sym (back i k (l tt))) ∙ ap (λ (x : ℕ). n * x) (pow-add 2 (i - k) k) ∙ sym (mul_assoc n (2 ^ (i - k)) (2 ^ k)) in
        let m : q < n * 2 ^ (i - k) = lt_of_mul-lt-mul_right (2 ^ k) (subst (λ (x : ℕ). q * 2 ^ k < x) e h) in
        le_trans (mul-le-mul_right (2 ^ k) (le_trans (le_of_eq (add-one q)) m)) (le_of_eq (sym e))
    go false l g =
        let a : n * 2 ^ i < 2 ^ (53 + i) = shl_lt 53 i d in
        let b : 2 ^ (53 + i) ≤ 2 ^ (52 + k) = pow_mono (room i k (g tt)) in
        let c : 2 ^ (52 + k) ≤ q * 2 ^ k = le_trans (le_of_eq (pow-add 2 52 k)) (mul-le-mul_right (2 ^ k) f) in
        absurd (lt_irrefl (n * 2 ^ i) (lt_of_lt_of_le a (le_trans b (le_trans c (le_of_lt h)))))

-- ---- the middle of the rounded root and another value
twice-below : (q c z : ℕ) → q * c < z → 2 * q * c ≤ q * c + z
twice-below q c z h = omega (arith, mul_assoc 2 q c)

twice-above : (q c z : ℕ) → z < q * c → q * c + z < 2 * q * c
twice-above q c z h = omega (arith, mul_assoc 2 q c)

one-and-next : (q c z : ℕ) → (q + 1) * c ≤ z → (2 * q + 1) * c ≤ q * c + z
one-and-next q c z h = omega (arith, add-mul q 1 c, add-mul (2 * q) 1 c, mul_assoc 2 q c, one-mul c)

next-and-one : (q c z : ℕ) → z ≤ q * c → (q + 1) * c + z ≤ (2 * q + 1) * c
next-and-one q c z h = omega (arith, add-mul q 1 c, add-mul (2 * q) 1 c, mul_assoc 2 q c, one-mul c)

square_above : (q rest r : ℕ) → q * q + rest ≡ r → rest ≤ 2 * q → 4 * r < 2 * (q + 1) * (2 * (q + 1))
square_above q rest r e h = omega (arith, square-twice (q + 1), square-more q)

square-below : (q rest r : ℕ) → q * q + rest ≡ r → 2 * q * (2 * q) ≤ 4 * r
square-below q rest r e = omega (arith, square-twice q)

module _ (r q rest : ℕ) (e : q * q + rest ≡ r) (h : rest ≤ 2 * q) (full : 2 ^ 52 ≤ q) (k n i : ℕ) (d : n < 2 ^ 53) where
  pub below-middle : up-or-down q rest * 2 ^ k < n * 2 ^ i
      → 4 * (r * (2 ^ k * 2 ^ k)) < (up-or-down q rest * 2 ^ k + n * 2 ^ i) * (up-or-down q rest * 2 ^ k + n * 2 ^ i)
  below-middle = go (ltb q rest) (nltb→le q rest)
    where
      go : (b : Bool) → (T (not b) → rest ≤ q) → cond b (q + 1) q * 2 ^ k < n * 2 ^ i
          → 4 * (r * (2 ^ k * 2 ^ k)) < (cond b (q + 1) q * 2 ^ k + n * 2 ^ i) * (cond b (q + 1) q * 2 ^ k + n * 2 ^ i)
      go true l g = over_by r (2 * (q + 1)) (2 ^ k) ((q + 1) * 2 ^ k + n * 2 ^ i) (square_above q rest r e h) (pow_pos k) (twice-below (q + 1) (2 ^ k) (n * 2 ^ i) g)
      go false l g =
          over_by r (2 * q + 1) (2 ^ k) (q * 2 ^ k + n * 2 ^ i) (before-middle q rest r e (l tt)) (pow_pos k)
          (one-and-next q (2 ^ k) (n * 2 ^ i) (next q k n i full d g))

  pub above-middle : n * 2 ^ i < up-or-down q rest * 2 ^ k
      → (up-or-down q rest * 2 ^ k + n * 2 ^ i) * (up-or-down q rest * 2 ^ k + n * 2 ^ i) < 4 * (r * (2 ^ k * 2 ^ k))
  above-middle = go (ltb q rest) (ltb→lt q rest)
    where
      go : (b : Bool) → (T b → q < rest) → n * 2 ^ i < cond b (q + 1) q * 2 ^ k
          → (cond b (q + 1) q * 2 ^ k + n * 2 ^ i) * (cond b (q + 1) q * 2 ^ k + n * 2 ^ i) < 4 * (r * (2 ^ k * 2 ^ k))
      go true l g =
          let at_most : n * 2 ^ i ≤ q * 2 ^ k = le_of_suc-le-suc (lt_of_not-le (λ (m : suc (q * 2 ^ k) ≤ n * 2 ^ i). not-le_of_lt g (next q k n i full d m))) in
          under-by r (2 * q + 1) (2 ^ k) ((q + 1) * 2 ^ k + n * 2 ^ i) (past-middle q rest r e (l tt)) (pow_pos k) (next-and-one q (2 ^ k) (n * 2 ^ i) at_most)
      go false l g = under-by' r (2 * q) (2 ^ k) (q * 2 ^ k + n * 2 ^ i) (square-below q rest r e) (twice-above q (2 ^ k) (n * 2 ^ i) g)
