-- The range of signed 64 bits: the numbers formed within it, and a number as the machine reads it. Assumes nothing.
use Rattle.std.proofs.Common.{◌≡◌, refl, ap, ap₂, sym, ◌∙◌, subst, true, false, ℕ, zero, suc, ◌<◌, ◌≤◌, ◌^◌, T, ℤ, pos, negsuc, neg_ℤ, nat_abs, Option, Some, None, Ok, Err, FitsSigned, w64, to_z, of_z, arith}
use Rattle.std.proofs.Math.Facts.{to_z-of_z}
use Rattle.std.specs.Int.Signed.{mag}
use Rattle.std.specs.Option.{SomeIff}
use Rattle.std.specs.Prelude.{ok_or}
use Rattle.refusals.specs.declared.Refusal.TheVariants.{OutOfRange}
use Rattle.whole.specs.Checked.{in_range, formed}
use Rattle.std.proofs.lemmas.Bool.{lt-ltb, le-ltb}

pub never : {X : Type 0} → false ≡ true → X
never e = absurd (subst T (sym e) tt)

pub nat_abs-zero : (z : ℤ) → nat_abs z ≡ 0 → z ≡ pos 0
nat_abs-zero (pos n) h = ap pos h
nat_abs-zero (negsuc n) h = absurd (omega (arith, h))

pub nat_abs-neg : (r : ℕ) → nat_abs (neg_ℤ (pos r)) ≡ r
nat_abs-neg zero = refl
nat_abs-neg (suc r) = refl

pub formed-in : (z : ℤ) → mag z < 2 ^ 63 → formed z ≡ Ok z
unfolding formed
formed-in z h = rw (lt-ltb (mag z) (2 ^ 63) h)

pub formed-out : (z : ℤ) → in_range z ≡ false → formed z ≡ Err OutOfRange
unfolding formed
formed-out z h = rw h

-- an operation that gives its number where that fits
pub or_refused : (o : Option ℤ) (z : ℤ) → SomeIff o (FitsSigned w64 z) z → ok_or o OutOfRange ≡ formed z
or_refused (Some x) z h = ap Ok h.1 ∙ sym (formed-in z h.0.sfits)
or_refused None z h = sym (formed-out z (le-ltb (mag z) (2 ^ 63) (outside (mag z) (λ l. h (record { sfits = l })))))
  where
    outside : (n : ℕ) → (n < 2 ^ 63 → ⊥) → 2 ^ 63 ≤ n
    outside n f = omega arith

-- ---- a number as the machine reads it back from its bits
abbrev pub tz : ℤ → ℤ
tz z = to_z w64 (of_z w64 z)

pub of-bits : {b : ℤ} (n : ℕ) → FitsSigned w64 b → of_z w64 b ≡ n → b ≡ to_z w64 n
of-bits n fb h = sym (to_z-of_z fb) ∙ ap (to_z w64) h

pub raw-is : {X : Type 0} {a b : ℤ} → FitsSigned w64 a → FitsSigned w64 b → (f : ℤ → ℤ → X) → f (tz a) (tz b) ≡ f a b
raw-is fa fb f = ap₂ f (to_z-of_z fa) (to_z-of_z fb)
