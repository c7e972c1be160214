-- Formulas on the derivatives of curves, over any kind of number. A jet is a function from an order to the derivative of that order.
-- Assumes nothing.
use Rattle.std.specs.Prelude.{ℕ, suc, ◌-◌}
use Rattle.calculus.specs.Kind.{Kind, Module, regular}
use Rattle.calculus.specs.InTurn.{in_turn}
use Rattle.calculus.specs.Rising.{before, rising}
use Rattle.calculus.specs.Choose.{choose}

abbrev pub derivative : {A : Type 0} → (ℕ → A) → ℕ → A
derivative a m = a (suc m)

module _ {S A : Type 0} (M : Module S A) where
  abbrev pub sum : (ℕ → A) → (ℕ → A) → ℕ → A
  sum a b m = M.plus (a m) (b m)

  abbrev pub difference : (ℕ → A) → (ℕ → A) → ℕ → A
  difference a b m = M.minus (a m) (b m)

  -- the i-th term of Leibniz's rule at the order m: (a · b) · coefficient, for a product of any two kinds of entry
  abbrev pub leibniz : {B C : Type 0} → (B → C → A) → (ℕ → B) → (ℕ → C) → ℕ → ℕ → A
  leibniz pair a b m i = M.scale (pair (a i) (b (m - i))) (M.scalars.of_nat (choose m i))

  abbrev pub product_by : {B C : Type 0} → (B → C → A) → (ℕ → B) → (ℕ → C) → ℕ → A
  product_by pair a b m = in_turn M.plus M.zero (leibniz pair a b m) (suc m)

module _ {A : Type 0} (K : Kind A) where
  abbrev pub product : (ℕ → A) → (ℕ → A) → ℕ → A
  product = product_by (regular K) K.times

  -- what is left of num[m] for d[0] · q[m]: the other terms of the rule, subtracted in turn
  abbrev pub dividend : (ℕ → A) → (ℕ → A) → (ℕ → A) → ℕ → A
  dividend num d q m = in_turn K.minus (num m) (λ i. leibniz (regular K) K.times d q m (suc i)) m

  -- an entry of the quotient num / d, from the entries q before it
  abbrev pub quotient_entry : (ℕ → A) → (ℕ → A) → (ℕ → A) → ℕ → A
  quotient_entry num d q m = K.over (dividend num d q m) (d 0)

  abbrev pub quotient : (ℕ → A) → (ℕ → A) → ℕ → A
  quotient num d = rising K.zero (quotient_entry num d)

  -- the dividend of the quotient's own entry m
  abbrev pub quotient_dividend : (ℕ → A) → (ℕ → A) → ℕ → A
  quotient_dividend num d m = dividend num d (before K.zero (quotient_entry num d) m) m
