-- Finite values as counts of the smallest value: digits of 53 places at most, times a power of two; and their order by the counts. Assumes nothing.
use Rattle.std.proofs.Common.{◌≡◌, refl, sym, ap, ◌∙◌, inl, inr, true, false, ◌&&◌, true≢false, ℕ, zero, suc, ◌+◌, ◌-◌, ◌*◌, ◌/◌, ◌%◌, ◌^◌, ◌≤◌, ◌<◌, le_of_suc-le-suc, lt_of_le_of_lt, lt_of_lt_of_le, lt_of_not-le, not-le_of_lt, le_of_eq, eq-zero-or-pos, zero-mul, mul-one, mul_assoc, mul_comm, mul_right_comm, mul-lt-mul_of_pos_right, lt_of_mul-lt-mul_right, arith, T, eqb, ltb, leb, ltb→lt, leb→le, lit<, ℤ, pos, negsuc, pow-add, pow_pos}
use lib.Pow.{pow-lt}
use lib.Ieee.{Float, nan, inf, fin, binary64, up, down, fits, to_bits, lt}
use lib.Ieee.Digits.{back}
use lib.Ieee.Exact.{HasValue}
use lib.Ieee.Fits.{and_l, and_r, down_pos}
use lib.Ieee.Positive.{positive}
use Rattle.ieee.proofs.Fields.{read}

-- ---- a positive value
pub record Count (x : Float) : Type 0 where
  pub digits : ℕ
  pub places : ℕ
  pub some : 0 < digits
  pub narrow : digits < 2 ^ 53
  pub small : places < 2046
  pub value : HasValue x false (digits * 2 ^ places) (2 ^ 1074)

pub count : (x : Float) → T (fits binary64 x) → T (positive x) → Count x
count x f p =
    let b = to_bits binary64 x in
    let r = read x f p in
    elim (eq-zero-or-pos (b / 2 ^ 52)) [
      | inl e ↦ record { digits = b % 2 ^ 52; places = 0; some = (r.subnormal e).0; narrow = omega arith; small = lit< tt; value = (r.subnormal e).1 }
      | inr l ↦ record {
        digits = 2 ^ 52 + b % 2 ^ 52;
        places = b / 2 ^ 52 - 1;
        some = omega arith;
        narrow = omega arith;
        small = before (b / 2 ^ 52) r.small;
        value = r.normal (λ (e : b / 2 ^ 52 ≡ 0). none (b / 2 ^ 52) l e);
      }
    ]
  where
    none : (a : ℕ) → 0 < a → a ≡ 0 → ⊥
    none a l e = omega arith

    before : (a : ℕ) → a < 2047 → a - 1 < 2046
    before a h = omega arith

-- ---- any value that is not negative
pub record Other (n : ℕ) (d : ℤ) : Type 0 where
  pub places : ℕ
  pub narrow : n < 2 ^ 53
  pub value : HasValue (fin false n d) false (n * 2 ^ places) (2 ^ 1074)

pow_le_back : (a b : ℕ) → 2 ^ a ≤ 2 ^ b → a ≤ b
pow_le_back a b h = le_of_suc-le-suc (lt_of_not-le (λ (g : suc b ≤ a). not-le_of_lt (pow-lt g) h))

shifted : (n : ℕ) (d : ℤ) → n < 2 ^ 53 → down d ≤ 2 ^ 1074 → Other n d
shifted n (pos a) l h = record {
  places = a + 1074;
  narrow = l;
  value = (refl, mul_assoc n (2 ^ a) (2 ^ 1074) ∙ ap (λ (x : ℕ). n * x) (sym (pow-add 2 a 1074)) ∙ sym (mul-one (n * 2 ^ (a + 1074))));
}
shifted n (negsuc a) l h = record {
  places = 1074 - suc a;
  narrow = l;
  value = (
    refl,
    ap (λ (x : ℕ). x * 2 ^ 1074) (mul-one n)
        ∙ ap (λ (x : ℕ). n * x) (ap (λ (x : ℕ). 2 ^ x) (sym (back 1074 (suc a) (pow_le_back (suc a) 1074 h))) ∙ pow-add 2 (1074 - suc a) (suc a))
        ∙ sym (mul_assoc n (2 ^ (1074 - suc a)) (2 ^ suc a)),
  );
}

pub other : (n : ℕ) (d : ℤ) → T (fits binary64 (fin false n d)) → Other n d
unfolding fits
other zero d f = record {
  places = 0;
  narrow = lit< tt;
  value = (refl, ap (λ (x : ℕ). x * 2 ^ 1074) (zero-mul (up d)) ∙ sym (zero-mul (down d)));
}
other (suc m) d f =
    let A = eqb (suc m % 2) 1 in
    let B = ltb (suc m) (2 ^ 53) in
    let C = leb (down d) (2 ^ 1074) in
    let D = ltb (suc m * up d) (2 ^ 1024 * down d) in
    shifted (suc m) d
    (ltb→lt (suc m) (2 ^ 53) (and_r A B (and_l (A && B) C (and_l (A && B && C) D f))))
    (leb→le (down d) (2 ^ 1074) (and_r (A && B) C (and_l (A && B && C) D f)))

-- ---- the order
fractions : (a b p q u v c : ℕ) → 0 < p → 0 < q → a * c ≡ u * p → b * c ≡ v * q → a * q < b * p → 0 < c → u < v
fractions a b p q u v c P Q e f h C =
    lt_of_mul-lt-mul_right (p * q)
    (lt_of_le_of_lt (le_of_eq (sym (mul_assoc u p q) ∙ ap (λ (x : ℕ). x * q) (sym e) ∙ mul_right_comm a c q))
    (lt_of_lt_of_le (mul-lt-mul_of_pos_right h C)
    (le_of_eq (mul_right_comm b p c ∙ ap (λ (x : ℕ). x * p) f ∙ mul_assoc v q p ∙ ap (λ (x : ℕ). v * x) (mul_comm q p)))))

pub lt-counts : (x y : Float) (u v : ℕ) → HasValue x false u (2 ^ 1074) → HasValue y false v (2 ^ 1074) → T (lt x y) → u < v
unfolding lt
lt-counts nan y u v h k l = absurd h
lt-counts (inf s) y u v h k l = absurd h
lt-counts (fin true m e) y u v h k l = absurd (true≢false h.0)
lt-counts (fin false m e) nan u v h k l = absurd k
lt-counts (fin false m e) (inf t) u v h k l = absurd k
lt-counts (fin false m e) (fin true n d) u v h k l = absurd (true≢false k.0)
lt-counts (fin false m e) (fin false n d) u v h k l =
    fractions (m * up e) (n * up d) (down e) (down d) u v (2 ^ 1074) (down_pos e) (down_pos d) h.1 k.1 (ltb→lt (m * up e * down d) (n * up d * down e) l) (pow_pos 1074)
