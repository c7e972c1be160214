-- The integer square root is the largest number whose square is at most n, and the only one. Assumes nothing.
use Rattle.std.proofs.Common.{◌≡◌, sym, ◌∙◌, subst, Bool, true, false, not, cond, ℕ, zero, suc, ◌+◌, ◌*◌, ◌/◌, ◌^◌, ◌≤◌, ◌<◌, zero-le, le_trans, le_antisymm, le_of_suc-le-suc, lt_of_lt_of_le, lt_of_not-le, not-le_of_lt, mul-one, mul-add, add-mul, mul-le-mul, pow-suc, div-lt_iff_lt-mul, zero-lt-suc, add-one, arith, T, leb, leb→le, lit≤}
use native.Mathlib.Nat.{mul-mul-mul_comm, pow-le-pow_left}
use lib.Dec.{nleb→lt}
use lib.Ieee.{size}
use lib.Ieee.Digits.{size-lt}
use Rattle.ieee.specs.SquareRoot.{root_digits, isqrt}

pub square-more : (a : ℕ) → (a + 1) * (a + 1) ≡ a * a + (a * 2 + 1)
square-more a = add-mul a 1 (a + 1) ∙ omega (arith, mul-add a a 1, mul-one a)

pub square-twice : (a : ℕ) → 2 * a * (2 * a) ≡ 4 * (a * a)
square-twice a = mul-mul-mul_comm 2 a 2 a

-- a root of one digit more, from the root r of n / 4
low-even : (n r : ℕ) → r * r ≤ n / 4 → 2 * r * (2 * r) ≤ n
low-even n r h = let e : 2 * r * (2 * r) ≡ 4 * (r * r) = square-twice r in omega arith

high-odd : (n r : ℕ) → n / 4 < (r + 1) * (r + 1) → n < (2 * r + 1 + 1) * (2 * r + 1 + 1)
high-odd n r h =
    let e : 2 * (r + 1) * (2 * (r + 1)) ≡ 4 * ((r + 1) * (r + 1)) = square-twice (r + 1) in
    let f : 2 * (r + 1) ≡ 2 * r + 1 + 1 = omega arith in
    let g : n < 2 * (r + 1) * (2 * (r + 1)) = omega arith in
    subst (λ (x : ℕ). n < x * x) f g

pub digits_low : (k n : ℕ) → root_digits k n * root_digits k n ≤ n
unfolding root_digits
digits_low zero n = zero-le
digits_low (suc k) n =
    let r = root_digits k (n / 4) in
    go (leb ((2 * r + 1) * (2 * r + 1)) n) (2 * r) (leb→le ((2 * r + 1) * (2 * r + 1)) n) (low-even n r (digits_low k (n / 4)))
  where
    go : (b : Bool) (a : ℕ) → (T b → (a + 1) * (a + 1) ≤ n) → a * a ≤ n → cond b (a + 1) a * cond b (a + 1) a ≤ n
    go true a h l = h tt
    go false a h l = l

pub digits-high : (k n : ℕ) → n < 4 ^ k → n < (root_digits k n + 1) * (root_digits k n + 1)
unfolding root_digits
digits-high zero n h = h
digits-high (suc k) n h =
    let r = root_digits k (n / 4) in
    go (leb ((2 * r + 1) * (2 * r + 1)) n) (2 * r) (nleb→lt ((2 * r + 1) * (2 * r + 1)) n)
    (high-odd n r (digits-high k (n / 4) ((div-lt_iff_lt-mul (zero-lt-suc 3)).1 (subst (λ (x : ℕ). n < x) (pow-suc 4 k) h))))
  where
    go : (b : Bool) (a : ℕ) → (T (not b) → n < (a + 1) * (a + 1)) → n < (a + 1 + 1) * (a + 1 + 1) → n < (cond b (a + 1) a + 1) * (cond b (a + 1) a + 1)
    go true a h l = l
    go false a h l = h tt

pub isqrt-low : (n : ℕ) → isqrt n * isqrt n ≤ n
unfolding isqrt
isqrt-low n = digits_low (size n) n

pub isqrt-high : (n : ℕ) → n < (isqrt n + 1) * (isqrt n + 1)
unfolding isqrt
isqrt-high n = digits-high (size n) n (lt_of_lt_of_le (size-lt n) (pow-le-pow_left (lit≤ tt) (size n)))

-- of two numbers with squares so, neither is the larger
at_most : (a b n : ℕ) → a * a ≤ n → n < (b + 1) * (b + 1) → a ≤ b
at_most a b n l h = le_of_suc-le-suc (lt_of_not-le (λ (g : suc b ≤ a). not-le_of_lt h (le_trans (subst (λ (x : ℕ). x * x ≤ a * a) (sym (add-one b)) (mul-le-mul g g)) l)))

pub isqrt-is : (n r : ℕ) → r * r ≤ n → n < (r + 1) * (r + 1) → isqrt n ≡ r
isqrt-is n r l h = le_antisymm (at_most (isqrt n) r n (isqrt-low n) h) (at_most r (isqrt n) n l (isqrt-high n))
