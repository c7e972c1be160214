-- The laws of the square root. `root-is-nearest`: no value of binary64 is as near to the exact root as the defined one, so a tie never comes up.
-- `root-fits`: the defined root is a value of binary64. `root-positive`, `root-finite`: when it is positive, and when finite. Assumes nothing.
use Rattle.std.proofs.Common.{◌≡◌, refl, sym, ap, ◌∙◌, subst, Bool, true, false, not, ◌&&◌, ℕ, zero, suc, ◌+◌, ◌-◌, ◌*◌, ◌%◌, ◌^◌, ◌≤◌, ◌<◌, zero-le, zero-lt-suc, zero-mul, le_trans, le_of_eq, lt_of_le_of_lt, lt_of_lt_of_le, lt_of_not-le, not-le_of_lt, add-sub_of_le, add-mul, mul_comm, mul_assoc, mul_left_comm, mul_right_comm, mul-le-mul, mul-pos, mul-lt-mul_of_pos_right, lt_of_mul-lt-mul_right, mod-lt, arith, lt-ltb, le-ltb, T, ltb, lt→ltb, ℤ, pow-add, pow_pos}
use lib.Count.{count_leading_zeros}
use lib.Ieee
use lib.Ieee.{Float, nan, inf, fin, binary64, up, down, units, fits, lt, of_bits}
use lib.Ieee.Exact.{HasValue, units_val}
use lib.Ieee.Fits.{nan-fits, inf-fits, up_pos}
use lib.Ieee.Positive.{positive, num, den, den_pos, value→cross, positive_of_value}
use lib.Ieee.Scale.{finite}
use Rattle.ieee.specs.SquareRoot.{isqrt, square_root}
use Rattle.ieee.specs.Nearest.{nearer_root}
use Rattle.ieee.proofs.Isqrt.{square-more, isqrt-low, isqrt-high}
use Rattle.ieee.proofs.Scaled.{Place, place, dropped, shift, word, radicand, radicand-is, radicand-low, four-pow}
use Rattle.ieee.proofs.Assembled.{in-range, units-fits}
use Rattle.ieee.proofs.Fields.{root-at}
use Rattle.ieee.proofs.Units.{Digits, up-or-down, in_between, defined, full}
use Rattle.ieee.proofs.Counted.{count, other, lt-counts}
use Rattle.ieee.proofs.Middle.{below-middle, above-middle}

-- ---- the digits of a positive value's root
high_word : (w : ℕ) → w < 2 ^ 64 → w * 2 ^ 42 < 2 ^ 106
high_word w h = omega arith

narrow-root : (q r : ℕ) → q * q ≤ r → r < 2 ^ 106 → q < 2 ^ 53
narrow-root q r l h = lt_of_not-le (λ (g : 2 ^ 53 ≤ q). not-le_of_lt h (le_trans (mul-le-mul g g) l))

left : (q r : ℕ) → q * q ≤ r → r < (q + 1) * (q + 1) → r - q * q ≤ 2 * q
left q r l h = omega (arith, square-more q)

few : (z j : ℕ) → j < 2046 → dropped z j ≤ 1600
few z j h = omega arith

module _ (x : Float) (f : T (fits binary64 x)) (p : T (positive x)) where
  abbrev m : ℕ
  m = (count x f p).digits

  abbrev j : ℕ
  j = (count x f p).places

  abbrev at : Place m
  at = place m (count x f p).some (count x f p).narrow

  abbrev k : ℕ
  k = dropped (count_leading_zeros 64 m) j

  abbrev r : ℕ
  r = radicand m j at

  abbrev q : ℕ
  q = isqrt r

  abbrev rest : ℕ
  rest = r - q * q

  whole : q * q + rest ≡ r
  whole = add-sub_of_le (isqrt-low r)

  below : rest ≤ 2 * q
  below = left q r (isqrt-low r) (isqrt-high r)

  of_word : m * 2 ^ shift (count_leading_zeros 64 m) j % 2 ^ 64 * 2 ^ 42 ≡ r
  of_word = ap (λ (y : ℕ). y * 2 ^ 42) (word m j at)

  found : Digits (m * 2 ^ shift (count_leading_zeros 64 m) j % 2 ^ 64) q rest
  found = record {
    value = whole ∙ sym of_word;
    below = below;
    small = narrow-root q r (isqrt-low r) (subst (λ (y : ℕ). y < 2 ^ 106) of_word (high_word (m * 2 ^ shift (count_leading_zeros 64 m) j % 2 ^ 64) (mod-lt (m * 2 ^ shift (count_leading_zeros 64 m) j) (pow_pos 64))));
  }

  ends : (2 ^ 52 ≤ up-or-down q rest) × (up-or-down q rest ≤ 2 ^ 53)
  ends = in_between m j at q rest found

  -- the definition, as so many of the smallest values
  root-units : square_root x ≡ units binary64 false (up-or-down q rest) k
  root-units = root-at x (m * 2 ^ j) p (count x f p).value ∙ defined m j at q rest found

  root-value : HasValue (square_root x) false (up-or-down q rest * 2 ^ k) (2 ^ 1074)
  root-value =
      subst (λ (y : Float). HasValue y false (up-or-down q rest * 2 ^ k) (2 ^ 1074)) (sym root-units)
      (units_val binary64 false (up-or-down q rest) k (in-range (up-or-down q rest) k ends.0 ends.1 (few (count_leading_zeros 64 m) j (count x f p).small)))

  positive-root-fits : T (fits binary64 (square_root x))
  positive-root-fits =
      subst (λ (y : Float). T (fits binary64 y)) (sym root-units)
      (units-fits (up-or-down q rest) k ends.0 ends.1 (few (count_leading_zeros 64 m) j (count x f p).small))

-- ---- from counts to fractions
-- a times p² is n times dx, s times p is t times d: so 4 a d² against s² dx is as 4 n against t²
cross-left : (a p n dx d : ℕ) → a * p * p ≡ n * dx → 4 * a * (d * d) * (p * p) ≡ 4 * n * (dx * (d * d))
cross-left a p n dx d e =
    let l : 4 * a * (d * d) * (p * p) ≡ 4 * (a * p * p) * (d * d) = simp (mul_assoc, mul_comm, mul_left_comm) in
    l ∙ ap (λ (y : ℕ). 4 * y * (d * d)) e ∙ ap (λ (y : ℕ). y * (d * d)) (sym (mul_assoc 4 n dx)) ∙ mul_assoc (4 * n) dx (d * d)

cross-right : (s p t d dx : ℕ) → s * p ≡ t * d → s * s * dx * (p * p) ≡ t * t * (dx * (d * d))
cross-right s p t d dx e =
    let l : s * s * dx * (p * p) ≡ s * p * (s * p) * dx = simp (mul_assoc, mul_comm, mul_left_comm) in
    let g : t * d * (t * d) * dx ≡ t * t * (dx * (d * d)) = simp (mul_assoc, mul_comm, mul_left_comm) in
    l ∙ ap (λ (y : ℕ). y * y * dx) e ∙ g

module _ (a p n dx d s t : ℕ) (e : a * p * p ≡ n * dx) (g : s * p ≡ t * d) (P : 0 < dx * (d * d)) where
  fraction-below : 4 * n < t * t → 4 * a * (d * d) < s * s * dx
  fraction-below h =
      lt_of_mul-lt-mul_right (p * p)
      (lt_of_le_of_lt (le_of_eq (cross-left a p n dx d e)) (lt_of_lt_of_le (mul-lt-mul_of_pos_right h P) (le_of_eq (sym (cross-right s p t d dx g)))))

  fraction-above : t * t < 4 * n → s * s * dx < 4 * a * (d * d)
  fraction-above h =
      lt_of_mul-lt-mul_right (p * p)
      (lt_of_le_of_lt (le_of_eq (cross-right s p t d dx g)) (lt_of_lt_of_le (mul-lt-mul_of_pos_right h P) (le_of_eq (sym (cross-left a p n dx d e)))))

added : (a b p dy dz u v : ℕ) → a * p ≡ u * dy → b * p ≡ v * dz → (a * dz + b * dy) * p ≡ (u + v) * (dy * dz)
added a b p dy dz u v e g =
    let l : a * dz * p ≡ u * (dy * dz) = mul_right_comm a dz p ∙ ap (λ (y : ℕ). y * dz) e ∙ mul_assoc u dy dz in
    let h : b * dy * p ≡ v * (dy * dz) = mul_right_comm b dy p ∙ ap (λ (y : ℕ). y * dy) g ∙ mul_assoc v dz dy ∙ ap (λ (y : ℕ). v * y) (mul_comm dz dy) in
    add-mul (a * dz) (b * dy) p ∙ ap (λ (y : ℕ). y + b * dy * p) l ∙ ap (λ (y : ℕ). u * (dy * dz) + y) h ∙ sym (add-mul u v (dy * dz))

-- ---- the nearest
module _ (x : Float) (f : T (fits binary64 x)) (p : T (positive x)) (n : ℕ) (d : ℤ) (g : T (fits binary64 (fin false n d))) where
  abbrev y : Float
  y = square_root x

  abbrev z : Float
  z = fin false n d

  abbrev u : ℕ
  u = up-or-down (q x f p) (rest x f p) * 2 ^ k x f p

  abbrev v : ℕ
  v = n * 2 ^ (other n d g).places

  scaled : num x * 2 ^ 1074 * 2 ^ 1074 ≡ r x f p * (2 ^ k x f p * 2 ^ k x f p) * den x
  scaled =
      ap (λ (a : ℕ). a * 2 ^ 1074) (value→cross x (m x f p * 2 ^ j x f p) (2 ^ 1074) (count x f p).value)
      ∙ mul_right_comm (m x f p * 2 ^ j x f p) (den x) (2 ^ 1074)
      ∙ ap (λ (a : ℕ). a * den x) (radicand-is (m x f p) (j x f p) (at x f p) ∙ ap (λ (a : ℕ). r x f p * a) (four-pow (k x f p) ∙ pow-add 2 (k x f p) (k x f p)))

  joined : (num y * den z + num z * den y) * 2 ^ 1074 ≡ (u + v) * (den y * den z)
  joined = added (num y) (num z) (2 ^ 1074) (den y) (den z) u v (value→cross y u (2 ^ 1074) (root-value x f p)) (other n d g).value.1

  room : 0 < den x * (den y * den z * (den y * den z))
  room = mul-pos (den_pos x) (mul-pos (mul-pos (den_pos y) (den_pos z)) (mul-pos (den_pos y) (den_pos z)))

  large : 2 ^ 52 ≤ q x f p
  large = full (q x f p) (rest x f p) (r x f p) (whole x f p) (below x f p) (radicand-low (m x f p) (j x f p) (at x f p))

  pub root-is-nearest : nearer_root x (square_root x) (fin false n d)
  root-is-nearest = (
    λ l.
        fraction-below (num x) (2 ^ 1074) (r x f p * (2 ^ k x f p * 2 ^ k x f p)) (den x) (den y * den z) (num y * den z + num z * den y) (u + v) scaled joined room
        (below-middle (r x f p) (q x f p) (rest x f p) (whole x f p) (below x f p) large (k x f p) n (other n d g).places (other n d g).narrow
        (lt-counts y z u v (root-value x f p) (other n d g).value l)),
    λ l.
        fraction-above (num x) (2 ^ 1074) (r x f p * (2 ^ k x f p * 2 ^ k x f p)) (den x) (den y * den z) (num y * den z + num z * den y) (u + v) scaled joined room
        (above-middle (r x f p) (q x f p) (rest x f p) (whole x f p) (below x f p) large (k x f p) n (other n d g).places (other n d g).narrow
        (lt-counts z y v u (other n d g).value (root-value x f p) l)),
  )

-- ---- which values it takes
is_positive : (m : ℕ) (e : ℤ) → T (positive (fin false (suc m) e))
is_positive m e = lt→ltb 0 (suc m) (zero-lt-suc m)

pub root-fits : (x : Float) → T (fits binary64 x) → T (fits binary64 (square_root x))
unfolding square_root
root-fits nan f = nan-fits binary64
root-fits (inf true) f = nan-fits binary64
root-fits (inf false) f = inf-fits binary64 false
root-fits (fin s zero e) f = f
root-fits (fin true (suc m) e) f = nan-fits binary64
root-fits (fin false (suc m) e) f = positive-root-fits (fin false (suc m) e) f (is_positive m e)

pub root-positive : (x : Float) → T (fits binary64 x) → T (positive x) → T (positive (square_root x))
root-positive x f p =
    positive_of_value (square_root x) (up-or-down (q x f p) (rest x f p) * 2 ^ k x f p) (2 ^ 1074) (root-value x f p)
    (mul-pos (lt_of_lt_of_le (pow_pos 52) (ends x f p).0) (pow_pos (k x f p)))

of_positive : (x : Float) → T (positive x) → finite x ≡ true
of_positive nan p = absurd p
of_positive (inf s) p = absurd p
of_positive (fin s m e) p = refl

zero-size : (a : ℕ) → 0 * a * 1 ≡ 0
zero-size a = omega arith

some_size : (a b m : ℕ) → 0 < suc m * a → 0 < suc m * a * 1 + 0 * b
some_size a b m h = omega arith

zeros-below : (s : Bool) (a b : ℕ) → a ≡ 0 → b ≡ 0 → Ieee.below s a false b ≡ false
zeros-below true a b e g = ap (λ (y : ℕ). ltb 0 (y + b)) e ∙ ap (λ (y : ℕ). ltb 0 (0 + y)) g
zeros-below false a b e g = ap (λ (y : ℕ). ltb y b) e ∙ ap (λ (y : ℕ). ltb 0 y) g

-- it is finite exactly where the operand is finite and not below zero
pub root-finite : (x : Float) → T (fits binary64 x) → finite (square_root x) ≡ (finite x && not (lt x (of_bits binary64 0)))
unfolding square_root lt of_bits
root-finite nan f = refl
root-finite (inf true) f = refl
root-finite (inf false) f = refl
root-finite (fin s zero e) f = sym (ap not (zeros-below s (0 * up e * 1) (0 * down e) (zero-size (up e)) (zero-mul (down e))))
root-finite (fin true (suc m) e) f = sym (ap not (lt-ltb 0 (suc m * up e * 1 + 0 * down e) (some_size (up e) (down e) m (mul-pos (zero-lt-suc m) (up_pos e)))))
root-finite (fin false (suc m) e) f =
    of_positive (square_root (fin false (suc m) e)) (root-positive (fin false (suc m) e) f (is_positive m e))
    ∙ sym (ap not (le-ltb (suc m * up e * 1) (0 * down e) (le_trans (le_of_eq (zero-mul (down e))) zero-le)))
