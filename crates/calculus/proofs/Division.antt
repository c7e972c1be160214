-- Division of integers where it is exact. Assumes nothing.
use Rattle.std.proofs.Common.{◌≡◌, refl, sym, ◌∙◌, ap, ℕ, zero, suc, ◌*◌, ◌/◌, ◌%◌, arith, mul-div_cancel, div-add-mod', zero-mul, ℤ, pos, negsuc, neg_ℤ, nat_abs}
use native.Mathlib.Nat.{zero-div, mul-mod_left}
use lib.Signed.{quot_z, rem_z}
use Rattle.calculus.proofs.Ints.{◌⊗◌}

by-negative : (n b : ℕ) → quot_z (neg_ℤ (pos n)) (negsuc b) ≡ pos (n / suc b)
by-negative zero b = ap (λ x. neg_ℤ (pos x)) (zero-div (suc b)) ∙ ap pos (sym (zero-div (suc b)))
by-negative (suc n) b = refl

of_negative : (n b : ℕ) → quot_z (neg_ℤ (pos n)) (pos b) ≡ neg_ℤ (pos (n / b))
of_negative zero b = ap pos (zero-div b) ∙ ap (λ x. neg_ℤ (pos x)) (sym (zero-div b))
of_negative (suc n) b = refl

-- a multiple of d over d
pub quot-exact : (a d : ℤ) → ¬ (d ≡ pos 0) → quot_z (a ⊗ d) d ≡ a
unfolding ◌⊗◌
quot-exact (pos a) (pos zero) h = absurd (h refl)
quot-exact (negsuc a) (pos zero) h = absurd (h refl)
quot-exact (pos a) (pos (suc b)) h = ap pos (mul-div_cancel a {n = suc b} (omega arith))
quot-exact (negsuc a) (pos (suc b)) h = of_negative (suc a * suc b) (suc b) ∙ ap (λ x. neg_ℤ (pos x)) (mul-div_cancel (suc a) {n = suc b} (omega arith))
quot-exact (pos a) (negsuc b) h = by-negative (a * suc b) b ∙ ap pos (mul-div_cancel a {n = suc b} (omega arith))
quot-exact (negsuc a) (negsuc b) h = ap (λ x. neg_ℤ (pos x)) (mul-div_cancel (suc a) {n = suc b} (omega arith))

-- it leaves no remainder
rem-negative : (n : ℕ) (d : ℤ) → n % nat_abs d ≡ 0 → rem_z (neg_ℤ (pos n)) d ≡ pos 0
rem-negative zero d h = ap pos h
rem-negative (suc n) d h = ap (λ x. neg_ℤ (pos x)) h

pub rem-exact : (a d : ℤ) → rem_z (a ⊗ d) d ≡ pos 0
unfolding ◌⊗◌
rem-exact (pos a) (pos b) = ap pos (mul-mod_left a b)
rem-exact (negsuc a) (pos b) = rem-negative (suc a * b) (pos b) (mul-mod_left (suc a) b)
rem-exact (pos a) (negsuc b) = rem-negative (a * suc b) (negsuc b) (mul-mod_left a (suc b))
rem-exact (negsuc a) (negsuc b) = ap pos (mul-mod_left (suc a) (suc b))

-- and where no remainder is left, the quotient times d is what was divided
whole : (n d : ℕ) → n % d ≡ 0 → n / d * d ≡ n
whole n d h = omega (arith, div-add-mod' n d)

size : (n : ℕ) → nat_abs (neg_ℤ (pos n)) ≡ n
size zero = refl
size (suc n) = refl

negative-times : (q b : ℕ) → neg_ℤ (pos q) ⊗ pos b ≡ neg_ℤ (pos (q * b))
unfolding ◌⊗◌
negative-times zero b = simp zero-mul
negative-times (suc q) b = refl

negatives-times : (q b : ℕ) → neg_ℤ (pos q) ⊗ negsuc b ≡ pos (q * suc b)
unfolding ◌⊗◌
negatives-times zero b = simp zero-mul
negatives-times (suc q) b = refl

pub quot-times : (a d : ℤ) → rem_z a d ≡ pos 0 → quot_z a d ⊗ d ≡ a
unfolding ◌⊗◌
quot-times (pos a) (pos b) h = ap pos (whole a b (ap nat_abs h))
quot-times (pos a) (negsuc b) h = negatives-times (a / suc b) b ∙ ap pos (whole a (suc b) (ap nat_abs h))
quot-times (negsuc a) (pos b) h =
    negative-times (suc a / b) b ∙ ap (λ n. neg_ℤ (pos n)) (whole (suc a) b (sym (size (suc a % b)) ∙ ap nat_abs h))
quot-times (negsuc a) (negsuc b) h = ap (λ n. neg_ℤ (pos n)) (whole (suc a) (suc b) (sym (size (suc a % suc b)) ∙ ap nat_abs h))
