-- The bits of a normal value q * 2 ^ k of the smallest values, q having 53 digits or being 2 ^ 53: k * 2 ^ 52 + q. Assumes nothing.
use Rattle.std.proofs.Common.{◌≡◌, sym, ap, ◌∙◌, subst, ◌⊎◌, inl, inr, Bool, true, false, not, cond, true≢false, ℕ, suc, ◌+◌, ◌-◌, ◌*◌, ◌/◌, ◌^◌, ◌≤◌, ◌<◌, le_refl, le_of_eq, lt_of_le_of_lt, eq-or-lt_of_le, zero-add, mul_assoc, mul-le-mul_right, mul-div_cancel, mod-eq_of_lt, arith, T, ltb, ltb→lt, lit<, pow-add, pow_pos}
use native.Mathlib.Nat.{pow-succ'}
use lib.Arith.{le→nltb}
use lib.Pow.{pow-lt}
use lib.Ieee.{Float, nan, inf, fin, binary64, down, size, odd, units, fits, to_bits, of_bits, nan_bits}
use lib.Ieee.Exact.{HasValue, units_val}
use lib.Ieee.Fits.{down_pos, odd-fits, inf-fits}
use lib.Ieee.Bits.{of_bits-to_bits, nan_bits_above}
use Rattle.ieee.proofs.Scaled.{size-shifted}

-- ---- the bits, by the value
to_bits-at : (x : Float) (a : ℕ) → HasValue x false a (2 ^ 1074) → to_bits binary64 x ≡ (size a - 53) * 2 ^ 52 + a / 2 ^ (size a - 53)
unfolding to_bits
to_bits-at nan a h = absurd h
to_bits-at (inf s) a h = absurd h
to_bits-at (fin true m e) a h = absurd (true≢false h.0)
to_bits-at (fin false m e) a h =
    ap (λ (n : ℕ). 0 + (size n - 53) * 2 ^ 52 + n / 2 ^ (size n - 53)) (ap (λ (x : ℕ). x / down e) h.1 ∙ mul-div_cancel a (down_pos e))
    ∙ ap (λ (x : ℕ). x + a / 2 ^ (size a - 53)) (zero-add ((size a - 53) * 2 ^ 52))

some : (k : ℕ) → suc (52 + k) - 53 ≡ k
some k = omega arith

more : (k : ℕ) → suc (53 + k) - 53 ≡ suc k
more k = omega arith

carry : (k : ℕ) → suc k * 2 ^ 52 + 2 ^ 52 ≡ k * 2 ^ 52 + 2 ^ 53
carry k = omega arith

-- ---- the number of bits, at a q of 53 digits and at 2 ^ 53
field : (q k : ℕ) → 2 ^ 52 ≤ q → q ≤ 2 ^ 53 → (size (q * 2 ^ k) - 53) * 2 ^ 52 + q * 2 ^ k / 2 ^ (size (q * 2 ^ k) - 53) ≡ k * 2 ^ 52 + q
field q k lo hi = go (eq-or-lt_of_le hi)
  where
    go : (q ≡ 2 ^ 53) ⊎ (q < 2 ^ 53) → (size (q * 2 ^ k) - 53) * 2 ^ 52 + q * 2 ^ k / 2 ^ (size (q * 2 ^ k) - 53) ≡ k * 2 ^ 52 + q
    go (inr l) =
        ap (λ (d : ℕ). d * 2 ^ 52 + q * 2 ^ k / 2 ^ d) (ap (λ (x : ℕ). x - 53) (size-shifted 52 q k lo l) ∙ some k)
        ∙ ap (λ (x : ℕ). k * 2 ^ 52 + x) (mul-div_cancel q (pow_pos k))
    go (inl e) =
        subst (λ (a : ℕ). (size (a * 2 ^ k) - 53) * 2 ^ 52 + a * 2 ^ k / 2 ^ (size (a * 2 ^ k) - 53) ≡ k * 2 ^ 52 + a) (sym e)
        (ap (λ (d : ℕ). d * 2 ^ 52 + 2 ^ 53 * 2 ^ k / 2 ^ d) (ap (λ (x : ℕ). x - 53) (size-shifted 53 (2 ^ 53) k (le_refl (2 ^ 53)) (lit< tt)) ∙ more k)
        ∙ ap (λ (x : ℕ). suc k * 2 ^ 52 + x) (ap (λ (x : ℕ). x / 2 ^ suc k) (mul_assoc (2 ^ 52) 2 (2 ^ k) ∙ ap (λ (x : ℕ). 2 ^ 52 * x) (sym (pow-succ' 2 k))) ∙ mul-div_cancel (2 ^ 52) (pow_pos (suc k)))
        ∙ carry k)

-- ---- the value of those bits
module _ (q k : ℕ) (lo : 2 ^ 52 ≤ q) (hi : q ≤ 2 ^ 53) (small : k ≤ 1600) where
  pub in-range : q * 2 ^ k < 2 ^ 2098
  in-range = lt_of_le_of_lt (mul-le-mul_right (2 ^ k) hi) (lt_of_le_of_lt (le_of_eq (sym (pow-add 2 53 k))) (pow-lt {i = 53 + k} {j = 2098} (omega arith)))

  pub units-fits : T (fits binary64 (units binary64 false q k))
  unfolding units
  units-fits = go (ltb (q * 2 ^ k) (2 ^ 2098)) (ltb→lt (q * 2 ^ k) (2 ^ 2098))
    where
      go : (b : Bool) → (T b → q * 2 ^ k < 2 ^ 2098) → T (fits binary64 (cond b (odd 54 false q k 1074) (inf false)))
      go true h = odd-fits binary64 54 false q k (lt_of_le_of_lt hi (lit< tt)) hi (h tt)
      go false h = inf-fits binary64 false

  pub of-bits : of_bits binary64 (k * 2 ^ 52 + q) ≡ units binary64 false q k
  of-bits =
      ap (of_bits binary64) (sym (to_bits-at (units binary64 false q k) (q * 2 ^ k) (units_val binary64 false q k in-range) ∙ field q k lo hi))
      ∙ of_bits-to_bits binary64 (units binary64 false q k) units-fits

  pub bits_below : k * 2 ^ 52 + q < 2 ^ 63
  bits_below = omega arith

  pub no_nan : T (not (nan_bits binary64 (k * 2 ^ 52 + q)))
  no_nan =
      let n = k * 2 ^ 52 + q in
      subst (λ (b : Bool). T (not b)) (sym (nan_bits_above binary64 n))
      (subst (λ (x : ℕ). T (not (ltb (2047 * 2 ^ 52) x))) (sym (mod-eq_of_lt bits_below)) (le→nltb (2047 * 2 ^ 52) n (omega arith)))
