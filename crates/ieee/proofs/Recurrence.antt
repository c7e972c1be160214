-- The digit-by-digit recurrence of `digits`: what holds before each turn, and that a turn keeps it. Assumes nothing.
use Rattle.std.proofs.Common.{◌≡◌, refl, sym, ap, ◌∙◌, subst, ℕ, ◌+◌, ◌-◌, ◌*◌, ◌/◌, ◌%◌, ◌^◌, ◌≤◌, ◌<◌, lt_of_lt_of_le, mul_assoc, pow-suc, add-one, add-one-le, arith, pow_mono}
use native.Mathlib.Nat.{mul-mul-mul_comm}
use Rattle.ieee.proofs.Isqrt.{square-more}

-- after i turns over w: the digits of w that were taken are root * root + rest, and those that are left stand at the top of `left`
pub record State (w root rest left i : ℕ) : Type 0 where
  pub word : left < 2 ^ 64
  pub digits : root < 2 ^ i
  pub small : root < 2 ^ 53
  pub below : rest ≤ 2 * root
  pub value : (root * root + rest) * 2 ^ 64 + left ≡ w * 4 ^ i

-- two digits go from `left` to the number taken
moved : (p left v : ℕ) → p * 2 ^ 64 + left ≡ v → (p * 4 + left / 2 ^ 62) * 2 ^ 64 + left * 2 ^ 2 % 2 ^ 64 ≡ v * 4
moved p left v h = omega arith

fours : (w i : ℕ) → w * 4 ^ i * 4 ≡ w * 4 ^ (i + 1)
fours w i = mul_assoc w (4 ^ i) 4 ∙ ap (λ (x : ℕ). w * x) (sym (pow-suc 4 i) ∙ ap (λ (x : ℕ). 4 ^ x) (sym (add-one i)))

twos : (i : ℕ) → 2 ^ (i + 1) ≡ 2 ^ i * 2
twos i = ap (λ (x : ℕ). 2 ^ x) (add-one i) ∙ pow-suc 2 i

double : (r : ℕ) → r * 2 * (r * 2) ≡ r * r * 4
double r = mul-mul-mul_comm r 2 r 2

kept : (w r s l i p : ℕ) → r * r ≡ p → (p + s) * 2 ^ 64 + l ≡ w * 4 ^ i → (r * 2 * (r * 2) + (s * 4 + l / 2 ^ 62)) * 2 ^ 64 + l * 2 ^ 2 % 2 ^ 64 ≡ w * 4 ^ (i + 1)
kept w r s l i p e h =
    let d : r * 2 * (r * 2) ≡ p * 4 = double r ∙ ap (λ (x : ℕ). x * 4) e in
    let m : ((p + s) * 4 + l / 2 ^ 62) * 2 ^ 64 + l * 2 ^ 2 % 2 ^ 64 ≡ w * 4 ^ i * 4 = moved (p + s) l (w * 4 ^ i) h in
    let f : w * 4 ^ i * 4 ≡ w * 4 ^ (i + 1) = fours w i in
    omega arith

module _ (w r s l i : ℕ) (h : State w r s l i) (more : i < 53) where
  bound : r * 2 < 2 ^ (i + 1)
  bound = subst (λ (x : ℕ). r * 2 < x) (sym (twos i)) (twice (2 ^ i) h.digits)
    where
      twice : (x : ℕ) → r < x → r * 2 < x * 2
      twice x k = omega arith

  bound-odd : r * 2 + 1 < 2 ^ (i + 1)
  bound-odd = subst (λ (x : ℕ). r * 2 + 1 < x) (sym (twos i)) (twice (2 ^ i) h.digits)
    where
      twice : (x : ℕ) → r < x → r * 2 + 1 < x * 2
      twice x k = omega arith

  -- the next digit of the root is 0
  pub stays : s * 4 + l / 2 ^ 62 ≤ r * 2 * 2 → State w (r * 2) (s * 4 + l / 2 ^ 62) (l * 2 ^ 2 % 2 ^ 64) (i + 1)
  stays k = record {
    word = omega arith;
    digits = bound;
    small = lt_of_lt_of_le bound (pow_mono (add-one-le more));
    below = omega arith;
    value = kept w r s l i (r * r) refl h.value;
  }

  -- the next digit of the root is 1
  pub takes : r * 2 * 2 < s * 4 + l / 2 ^ 62 → State w (r * 2 + 1) (s * 4 + l / 2 ^ 62 - (r * 2 * 2 + 1)) (l * 2 ^ 2 % 2 ^ 64) (i + 1)
  takes k =
      let before = h.below in
      record {
        word = omega arith;
        digits = bound-odd;
        small = lt_of_lt_of_le bound-odd (pow_mono (add-one-le more));
        below = omega arith;
        value = omega (arith, square-more (r * 2), kept w r s l i (r * r) refl h.value);
      }

pub renamed : {w r s l i r' s' : ℕ} → r' ≡ r → s' ≡ s → State w r s l i → State w r' s' l i
renamed {w} {r} {s} {l} {i} {r'} e f h = subst (λ (y : ℕ). State w r' y l i) (sym f) (subst (λ (y : ℕ). State w y s l i) (sym e) h)
