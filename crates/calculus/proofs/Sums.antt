-- Finite sums, and linear functionals: what takes sums to sums and multiples to multiples.
-- Assumes nothing.
use Rattle.std.proofs.Common.{◌≡◌, refl, sym, ◌∙◌, ap, ap₂, ℕ, zero, suc, ◌<◌, arith, ℤ, pos}
use mathlib.Core.Path.{fun_ext}
use Rattle.calculus.proofs.Ints.{◌⊕◌, ◌⊗◌, neg, sum}
use Rattle.calculus.proofs.Ring.{ring, sums, zeros, zero-mul, mul-add, neg-mul, mul_comm, one-mul}

pub sum-cong : (n : ℕ) {f g : ℕ → ℤ} → ((i : ℕ) → i < n → f i ≡ g i) → sum n f ≡ sum n g
unfolding sum
sum-cong zero h = refl
sum-cong (suc n) h = ap₂ (λ x y. x ⊕ y) (sum-cong n (λ i l. h i (omega arith))) (h n (omega arith))

pub sum-front : (n : ℕ) (f : ℕ → ℤ) → sum (suc n) f ≡ f 0 ⊕ sum n (λ i. f (suc i))
unfolding sum
sum-front zero f = simp ring
sum-front (suc n) f = ap (λ x. x ⊕ f (suc n)) (sum-front n f) ∙ simp sums

pub record Linear {X : Type 0} (L : (X → ℤ) → ℤ) : Type 0 where
  pub plus : (f g : X → ℤ) → L (λ x. f x ⊕ g x) ≡ L f ⊕ L g
  pub times : (c : ℤ) (f : X → ℤ) → L (λ x. c ⊗ f x) ≡ c ⊗ L f

module _ {X : Type 0} (L : (X → ℤ) → ℤ) (lin : Linear L) where
  pub at_zero : L (λ x. pos 0) ≡ pos 0
  at_zero = ap L (fun_ext (λ x. sym (zero-mul (pos 0)))) ∙ lin.times (pos 0) (λ x. pos 0) ∙ zero-mul (L (λ x. pos 0))

  pub times-right : (f : X → ℤ) (c : ℤ) → L (λ x. f x ⊗ c) ≡ L f ⊗ c
  times-right f c = ap L (fun_ext (λ x. mul_comm (f x) c)) ∙ lin.times c f ∙ mul_comm c (L f)

  pub at-neg : (f : X → ℤ) → L (λ x. neg (f x)) ≡ neg (L f)
  at-neg f = ap L (fun_ext (λ x. minus (f x))) ∙ lin.times (neg (pos 1)) f ∙ sym (minus (L f))
    where
      minus : (a : ℤ) → neg a ≡ neg (pos 1) ⊗ a
      minus a = ap neg (sym (one-mul a)) ∙ sym (neg-mul (pos 1) a)

  pub through-sum : (n : ℕ) (f : ℕ → X → ℤ) → L (λ x. sum n (λ k. f k x)) ≡ sum n (λ k. L (f k))
  unfolding sum
  through-sum zero f = at_zero
  through-sum (suc n) f = lin.plus (λ x. sum n (λ k. f k x)) (f n) ∙ ap (λ y. y ⊕ L (f n)) (through-sum n f)

sum-plus : (n : ℕ) (f g : ℕ → ℤ) → sum n (λ i. f i ⊕ g i) ≡ sum n f ⊕ sum n g
unfolding sum
sum-plus zero f g = simp zeros
sum-plus (suc n) f g = ap (λ x. x ⊕ (f n ⊕ g n)) (sum-plus n f g) ∙ simp sums

sum-times : (n : ℕ) (c : ℤ) (f : ℕ → ℤ) → sum n (λ i. c ⊗ f i) ≡ c ⊗ sum n f
unfolding sum
sum-times zero c f = simp zeros
sum-times (suc n) c f = ap (λ x. x ⊕ c ⊗ f n) (sum-times n c f) ∙ sym (mul-add c (sum n f) (f n))

pub sum-linear : (n : ℕ) → Linear (sum n)
sum-linear n = record { plus = sum-plus n; times = sum-times n }
