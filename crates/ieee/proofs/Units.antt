-- The root of m * 2 ^ j smallest values, from its digits: what `of_units` returns is the definition. Assumes nothing.
use Rattle.std.proofs.Common.{◌≡◌, sym, ap, ◌∙◌, subst, Bool, true, false, cond, ℕ, suc, ◌+◌, ◌*◌, ◌%◌, ◌^◌, ◌≤◌, ◌<◌, le_of_suc-le-suc, lt_of_not-le, mul-le-mul, add-one, arith, ltb}
use lib.Count.{count_leading_zeros}
use lib.Ieee.{binary64, units}
use Rattle.ieee.specs.SquareRoot.{root_of}
use Rattle.ieee.proofs.Isqrt.{square-more}
use Rattle.ieee.proofs.Scaled.{Place, dropped, shift, word, radicand, radicand-low, radicand-is, dropped-by-size}
use Rattle.ieee.proofs.Rounded.{nearest-is}

-- the digits of the root, as `digits` gives them, and the root rounded
pub record Digits (w root rest : ℕ) : Type 0 where
  pub value : root * root + rest ≡ w * 2 ^ 42
  pub below : rest ≤ 2 * root
  pub small : root < 2 ^ 53

abbrev pub up-or-down : ℕ → ℕ → ℕ
up-or-down root rest = cond (ltb root rest) (root + 1) root

between : (b : Bool) (root : ℕ) → 2 ^ 52 ≤ root → root < 2 ^ 53 → (2 ^ 52 ≤ cond b (root + 1) root) × (cond b (root + 1) root ≤ 2 ^ 53)
between true root l h = omega arith
between false root l h = omega arith

-- a number whose square is so large has 53 digits
pub full : (root rest r : ℕ) → root * root + rest ≡ r → rest ≤ 2 * root → 2 ^ 104 ≤ r → 2 ^ 52 ≤ root
full root rest r e h l =
    le_of_suc-le-suc
    (lt_of_not-le (λ (g : suc root ≤ 2 ^ 52).
    let s : (root + 1) * (root + 1) ≤ 2 ^ 52 * 2 ^ 52 = subst (λ (x : ℕ). x * x ≤ 2 ^ 52 * 2 ^ 52) (sym (add-one root)) (mul-le-mul g g) in
    none root rest r e h l s (square-more root)))
  where
    none : (root rest r : ℕ) → root * root + rest ≡ r → rest ≤ 2 * root → 2 ^ 104 ≤ r → (root + 1) * (root + 1) ≤ 2 ^ 104 → (root + 1) * (root + 1) ≡ root * root + (root * 2 + 1) → ⊥
    none root rest r e h l s q = omega arith

module _ (m j : ℕ) (p : Place m) (root rest : ℕ) (d : Digits (m * 2 ^ shift (count_leading_zeros 64 m) j % 2 ^ 64) root rest) where
  value : root * root + rest ≡ radicand m j p
  value = d.value ∙ ap (λ (x : ℕ). x * 2 ^ 42) (word m j p)

  pub in_between : (2 ^ 52 ≤ up-or-down root rest) × (up-or-down root rest ≤ 2 ^ 53)
  in_between = between (ltb root rest) root (full root rest (radicand m j p) value d.below (radicand-low m j p)) d.small

  pub defined : root_of (m * 2 ^ j) ≡ units binary64 false (up-or-down root rest) (dropped (count_leading_zeros 64 m) j)
  unfolding root_of
  defined =
      nearest-is (m * 2 ^ j * 2 ^ 1074) (dropped (count_leading_zeros 64 m) j) (radicand m j p) root rest
      (dropped-by-size m j p) (radicand-is m j p) value d.below
