-- Quotients at 64 bits: what the machine's remainder and quotient say of the division. Assumes nothing.
use mathlib.Core.Path.{◌≡◌, refl, sym, ap, ◌∙◌}
use mathlib.Core.Bool.{false}
use Prim.Native.Nat.{ℕ, zero, suc, ◌/◌, ◌%◌, ◌<◌, ◌≤◌}
use native.Mathlib.Omega.{arith}
use native.Mathlib.Nat.{lt_of_le_of_lt, div-le_self, div-lt_self, mod-one, div-one}
use lib.Dec.{eqb}
use lib.IntN.{ℤ, pos, negsuc, neg_ℤ, ◌-ℤ◌, nat_abs, +ℤ_idl}
use lib.Signed.{mag, mag_rem, quot_z, rem_z}
use mir.Syntax.{w64}
use mir.Val.{SFits, of_z}
use mir.Facts.{to_z-of_z}
use borrow.Author.Tests.{eq-eqb, ne_eqb}
use Rattle.std.specs.Prelude.{Ok, Err}
use Rattle.refusals.specs.declared.Refusal.TheVariants.{DivisionByZero, Remainder}
use Rattle.whole.specs.Checked.{formed, divided}
use Rattle.whole.proofs.Range.{nat_abs-neg, nat_abs-zero, formed-in, tz, of-bits, raw-is}

mag-neg : (r : ℕ) {m : ℕ} → r ≤ suc m → mag (neg_ℤ (pos r)) ≤ m
mag-neg zero h = omega arith
mag-neg (suc r) h = omega arith

mag-neg-le : (r : ℕ) {m : ℕ} → r ≤ m → mag (neg_ℤ (pos r)) ≤ m
mag-neg-le zero h = omega arith
mag-neg-le (suc r) h = omega arith

quot-mag : (a b : ℤ) → (b ≡ negsuc 0 → ⊥) → mag (quot_z a b) ≤ mag a
quot-mag (pos m) (pos n) h = div-le_self m n
quot-mag (pos m) (negsuc n) h = mag-neg-le (m / suc n) (div-le_self m (suc n))
quot-mag (negsuc m) (pos n) h = mag-neg (suc m / n) (div-le_self (suc m) n)
quot-mag (negsuc m) (negsuc zero) h = absurd (h refl)
quot-mag (negsuc m) (negsuc (suc n)) h = le-of-lt-suc (div-lt_self {n = suc m} {k = suc (suc n)} (omega arith) (omega arith))
  where
    le-of-lt-suc : {x y : ℕ} → x < suc y → x ≤ y
    le-of-lt-suc l = omega arith

pub div-zero : (a : ℤ) {b : ℤ} → b ≡ pos 0 → Err DivisionByZero ≡ divided a b
unfolding divided
div-zero a h = rw h

rem-one : (a : ℤ) → nat_abs (rem_z a (negsuc 0)) ≡ 0
rem-one (pos m) = mod-one m
rem-one (negsuc m) = nat_abs-neg (suc m % 1) ∙ mod-one (suc m)

quot-one : (a : ℤ) → quot_z a (negsuc 0) ≡ neg_ℤ a
quot-one (pos m) = ap (λ (k : ℕ). neg_ℤ (pos k)) (div-one m)
quot-one (negsuc m) = ap pos (div-one (suc m))

pub div-minus-one : {a b : ℤ} → SFits w64 a → b ≡ negsuc 0 → formed (pos 0 -ℤ tz a) ≡ divided a b
unfolding divided
div-minus-one {a} fa h =
    rw (h, to_z-of_z fa, eq-eqb (nat_abs (rem_z a (negsuc 0))) 0 (rem-one a), quot-one a, +ℤ_idl (neg_ℤ a))

module _ {a b : ℤ} (fa : SFits w64 a) (fb : SFits w64 b) (nz : of_z w64 b ≡ 0 → ⊥) (nm : of_z w64 b ≡ 18446744073709551615 → ⊥) where
  quot_fits : SFits w64 (quot_z a b)
  quot_fits = record { sfits = lt_of_le_of_lt (quot-mag a b (λ e. nm (ap (of_z w64) e))) fa.sfits }

  rem-fits : SFits w64 (rem_z a b)
  rem-fits = record { sfits = lt_of_le_of_lt (mag_rem a b) fa.sfits }

  not-zero : eqb (nat_abs b) 0 ≡ false
  not-zero = ne_eqb (nat_abs b) 0 (λ e. nz (ap (of_z w64) (nat_abs-zero b e)))

  pub div-asks : (0 < of_z w64 b) × SFits w64 (quot_z (tz a) (tz b))
  div-asks = (pos_of (of_z w64 b) nz, rw (to_z-of_z fa, to_z-of_z fb) quot_fits)
    where
      pos_of : (n : ℕ) → (n ≡ 0 → ⊥) → 0 < n
      pos_of n h = omega arith

  rem_is : of_z w64 (rem_z (tz a) (tz b)) ≡ of_z w64 (rem_z a b)
  rem_is = raw-is fa fb (λ x y. of_z w64 (rem_z x y))

  pub div-exact : of_z w64 (rem_z (tz a) (tz b)) ≡ 0 → Ok (tz (quot_z (tz a) (tz b))) ≡ divided a b
  unfolding divided
  div-exact h =
      raw-is fa fb (λ x y. Ok (tz (quot_z x y))) ∙ ap Ok (to_z-of_z quot_fits) ∙ sym (formed-in (quot_z a b) quot_fits.sfits)
      ∙ sym (rw (not-zero, eq-eqb (nat_abs (rem_z a b)) 0 (ap nat_abs (of-bits 0 rem-fits (sym rem_is ∙ h)))))

  pub div-left : (of_z w64 (rem_z (tz a) (tz b)) ≡ 0 → ⊥) → Err Remainder ≡ divided a b
  unfolding divided
  div-left h =
      sym (rw (not-zero, ne_eqb (nat_abs (rem_z a b)) 0 (λ e. h (rem_is ∙ ap (of_z w64) (nat_abs-zero (rem_z a b) e)))))
