-- The cases of the square root, by the tests that `sqrt` makes: above zero, finite, zero. Assumes nothing.
use Rattle.std.proofs.Common.{◌≡◌, refl, sym, ap, ◌∙◌, Bool, true, false, ◌&&◌, ◌||◌, true≢false, ℕ, zero, suc, ◌*◌, ◌≤◌, ◌<◌, zero-lt-suc, zero-mul, mul-pos, arith, ltb-true, ltb-false, eqb-true, T, eqb, lt→ltb}
use mathlib.Core.Bool.{beq}
use lib.Ieee.{Float, nan, inf, fin, binary64, up, down, lt, eq, div, of_bits}
use lib.Ieee.Fits.{up_pos}
use lib.Ieee.Positive.{positive}
use lib.Ieee.Scale.{finite}
use Rattle.ieee.specs.SquareRoot.{square_root}

-- +0, as the code writes it
abbrev pub positive_zero : Float
positive_zero = of_bits binary64 0

none : (d u : ℕ) → 0 * d < 0 * u * 1 → ⊥
none d u h = omega arith

some : (u m d : ℕ) → 0 < suc m * u → suc m * u * 1 ≡ 0 * d → ⊥
some u m d h e = omega arith

above : (u m d : ℕ) → 0 < suc m * u → 0 * d < suc m * u * 1
above u m d h = omega arith

false-is-true : {X : Type 0} {b : Bool} → b ≡ false → b ≡ true → X
false-is-true e f = absurd (true≢false (sym f ∙ e))

pub is_positive : (x : Float) → lt positive_zero x ≡ true → finite x ≡ true → T (positive x)
unfolding lt of_bits
is_positive nan l f = absurd (true≢false (sym f))
is_positive (inf s) l f = absurd (true≢false (sym f))
is_positive (fin true m e) l f = absurd (true≢false (sym l))
is_positive (fin false zero e) l f = absurd (none (down e) (up e) (ltb-true (0 * down e) (0 * up e * 1) l))
is_positive (fin false (suc m) e) l f = lt→ltb 0 (suc m) (zero-lt-suc m)

pub at-infinity : (x : Float) → lt positive_zero x ≡ true → finite x ≡ false → x ≡ square_root x
unfolding lt of_bits square_root
at-infinity nan l f = refl
at-infinity (inf true) l f = absurd (true≢false (sym l))
at-infinity (inf false) l f = refl
at-infinity (fin s m e) l f = absurd (true≢false f)

and_first : (a b : Bool) → (a && b) ≡ true → a ≡ true
and_first true b e = refl
and_first false b e = e

pub at_zero : (x : Float) → eq x positive_zero ≡ true → x ≡ square_root x
unfolding eq of_bits square_root
at_zero nan q = refl
at_zero (inf s) q = absurd (true≢false (sym q))
at_zero (fin s zero e) q = refl
at_zero (fin s (suc m) e) q =
    absurd (some (up e) m (down e) (mul-pos (zero-lt-suc m) (up_pos e))
    (eqb-true (suc m * up e * 1) (0 * down e) (and_first (eqb (suc m * up e * 1) (0 * down e)) (beq s false || eqb (suc m * up e * 1) 0) q)))

-- both zeros equal +0
zeros : (s : Bool) (a b : ℕ) → a ≡ 0 → b ≡ 0 → (eqb a b && (beq s false || eqb a 0)) ≡ true
zeros true a b p q = ap (λ (x : ℕ). eqb x b && (false || eqb x 0)) p ∙ ap (λ (x : ℕ). eqb 0 x && (false || eqb 0 0)) q
zeros false a b p q = ap (λ (x : ℕ). eqb x b && (true || eqb x 0)) p ∙ ap (λ (x : ℕ). eqb 0 x && (true || eqb 0 0)) q

no_size : (u : ℕ) → 0 * u * 1 ≡ 0
no_size u = omega arith

pub below-zero : (x : Float) → lt positive_zero x ≡ false → eq x positive_zero ≡ false → div binary64 positive_zero positive_zero ≡ square_root x
unfolding lt eq div of_bits square_root
below-zero nan l q = refl
below-zero (inf true) l q = refl
below-zero (inf false) l q = absurd (true≢false l)
below-zero (fin s zero e) l q = false-is-true q (zeros s (0 * up e * 1) (0 * down e) (no_size (up e)) (zero-mul (down e)))
below-zero (fin true (suc m) e) l q = refl
below-zero (fin false (suc m) e) l q =
    absurd (no (up e) m (down e) (mul-pos (zero-lt-suc m) (up_pos e)) (ltb-false (0 * down e) (suc m * up e * 1) l))
  where
    no : (u m d : ℕ) → 0 < suc m * u → suc m * u * 1 ≤ 0 * d → ⊥
    no u m d h k = omega arith
