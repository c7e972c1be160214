-- The definition's rounding, by squares, is a comparison of the root with what its square leaves. Both never agree, so there is no tie. Assumes nothing.
use mathlib.Core.Path.{◌≡◌, refl, sym, ap, ◌∙◌, subst}
use mathlib.Core.Bool.{Bool, true, false, not, cond}
use Prim.Native.Nat.{ℕ, ◌+◌, ◌-◌, ◌*◌, ◌/◌, ◌^◌, ◌≤◌, ◌<◌, compare, Ordering}
use native.Mathlib.Nat.{not-le_of_lt, le_of_lt, le_of_eq, mul_assoc, mul-lt-mul_of_pos_right, mul-div_cancel}
use native.Mathlib.Numerals.{add-one}
use native.Mathlib.Omega.{arith}
use lib.Dec.{T, is_le, compare_is_eq, ltb, leb→le, nleb→lt, eqb→eq, ltb→lt, nltb→le}
use lib.Pow.{pow_pos}
use lib.Ieee.{binary64, nearest, units, size}
use Rattle.ieee.specs.SquareRoot.{isqrt, nearest_root}
use Rattle.ieee.proofs.Isqrt.{square-more, square-twice, isqrt-is}
use Rattle.ieee.proofs.Scaled.{four-pow}

-- ---- what `compare` says of two numbers that differ
pub over : (a b : ℕ) → b < a → compare a b ≡ Ordering.gt
over a b h = go (compare a b) (leb→le a b)
  where
    go : (o : Ordering) → (T (is_le o) → a ≤ b) → o ≡ Ordering.gt
    go Ordering.lt l = absurd (not-le_of_lt h (l tt))
    go Ordering.eq l = absurd (not-le_of_lt h (l tt))
    go Ordering.gt l = refl

pub under : (a b : ℕ) → a < b → compare a b ≡ Ordering.lt
under a b h = go (compare a b) (nleb→lt a b) (eqb→eq a b)
  where
    go : (o : Ordering) → (T (not (is_le o)) → b < a) → (T (compare_is_eq o) → a ≡ b) → o ≡ Ordering.lt
    go Ordering.lt l e = refl
    go Ordering.eq l e = absurd (not-le_of_lt h (le_of_eq (sym (e tt))))
    go Ordering.gt l e = absurd (not-le_of_lt h (le_of_lt (l tt)))

-- ---- with the root q of r rounded down, and `rest` left: twice √r against 2 * q + 1
middle : (q : ℕ) → (2 * q + 1) * (2 * q + 1) ≡ 4 * (q * q) + (4 * q + 1)
middle q = square-more (2 * q) ∙ omega (arith, square-twice q)

pub past-middle : (q rest r : ℕ) → q * q + rest ≡ r → q < rest → (2 * q + 1) * (2 * q + 1) < 4 * r
past-middle q rest r e h = omega (arith, middle q)

pub before-middle : (q rest r : ℕ) → q * q + rest ≡ r → rest ≤ q → 4 * r < (2 * q + 1) * (2 * q + 1)
before-middle q rest r e h = omega (arith, middle q)

-- the same with both sides times c
rounds : (q rest r c : ℕ) → q * q + rest ≡ r → 0 < c → nearest q (compare (4 * (r * c)) ((2 * q + 1) * (2 * q + 1) * c)) ≡ cond (ltb q rest) (q + 1) q
rounds q rest r c e p =
    ap (λ (x : ℕ). nearest q (compare x ((2 * q + 1) * (2 * q + 1) * c))) (sym (mul_assoc 4 r c)) ∙ go (ltb q rest) (ltb→lt q rest) (nltb→le q rest)
  where
    go : (b : Bool) → (T b → q < rest) → (T (not b) → rest ≤ q) → nearest q (compare (4 * r * c) ((2 * q + 1) * (2 * q + 1) * c)) ≡ cond b (q + 1) q
    go true h l = ap (nearest q) (over (4 * r * c) ((2 * q + 1) * (2 * q + 1) * c) (mul-lt-mul_of_pos_right (past-middle q rest r e (h tt)) p)) ∙ sym (add-one q)
    go false h l = ap (nearest q) (under (4 * r * c) ((2 * q + 1) * (2 * q + 1) * c) (mul-lt-mul_of_pos_right (before-middle q rest r e (l tt)) p))

pub root_is : (q rest r : ℕ) → q * q + rest ≡ r → rest ≤ 2 * q → isqrt r ≡ q
root_is q rest r e h = isqrt-is r q (omega arith) (omega (arith, square-more q))

pub four-pos : (k : ℕ) → 0 < 4 ^ k
four-pos k = subst (λ (x : ℕ). 0 < x) (sym (four-pow k)) (pow_pos (k + k))

-- the definition, at a number that is r with an even count of zeros after it
pub nearest-is : (s k r q rest : ℕ) → (size s + 1) / 2 - 53 ≡ k → s ≡ r * 4 ^ k → q * q + rest ≡ r → rest ≤ 2 * q
    → nearest_root s ≡ units binary64 false (cond (ltb q rest) (q + 1) q) k
unfolding nearest_root
nearest-is s k r q rest d e v h =
    let at : ℕ → ℕ → ℕ = λ a i. nearest a (compare (4 * s) ((2 * a + 1) * (2 * a + 1) * 4 ^ i)) in
    ap (λ (i : ℕ). units binary64 false (at (isqrt (s / 4 ^ i)) i) i) d
    ∙ ap (λ (a : ℕ). units binary64 false (at a k) k) (ap isqrt (ap (λ (x : ℕ). x / 4 ^ k) e ∙ mul-div_cancel r (four-pos k)) ∙ root_is q rest r v h)
    ∙ ap (λ (x : ℕ). units binary64 false (nearest q (compare (4 * x) ((2 * q + 1) * (2 * q + 1) * 4 ^ k))) k) e
    ∙ ap (λ (a : ℕ). units binary64 false a k) (rounds q rest r (4 ^ k) v (four-pos k))
