-- Formulas on the derivatives of surfaces, over any kind of number. Entry [m][n] of a jet is the derivative m times by u and n times by v.
-- Assumes nothing.
use Rattle.std.specs.Prelude.{ℕ, suc, ◌-◌, ◌*◌}
use Rattle.calculus.specs.Kind.{Kind, Module, regular}
use Rattle.calculus.specs.InTurn.{in_turn, in_rows}
use Rattle.calculus.specs.declared.By.{By}
use Rattle.calculus.specs.declared.By.TheVariants as by
use Rattle.calculus.specs.Rising.{before_entry, rising_rows}
use Rattle.calculus.specs.Choose.{choose}

abbrev pub derivative_u : {A : Type 0} → (ℕ → ℕ → A) → ℕ → ℕ → A
derivative_u a m n = a (suc m) n

abbrev pub derivative_v : {A : Type 0} → (ℕ → ℕ → A) → ℕ → ℕ → A
derivative_v a m n = a m (suc n)

abbrev pub derivative_by : {A : Type 0} → By → (ℕ → ℕ → A) → ℕ → ℕ → A
derivative_by by.U = derivative_u
derivative_by by.V = derivative_v

module _ {S A : Type 0} (M : Module S A) where
  abbrev pub sum : (ℕ → ℕ → A) → (ℕ → ℕ → A) → ℕ → ℕ → A
  sum a b m n = M.plus (a m n) (b m n)

  abbrev pub difference : (ℕ → ℕ → A) → (ℕ → ℕ → A) → ℕ → ℕ → A
  difference a b m n = M.minus (a m n) (b m n)

  -- the term [i][j] of Leibniz's rule at [m][n], for a product of any two kinds of entry; its coefficient is one natural number
  abbrev pub leibniz : {B C : Type 0} → (B → C → A) → (ℕ → ℕ → B) → (ℕ → ℕ → C) → ℕ → ℕ → ℕ → ℕ → A
  leibniz pair a b m n i j = M.scale (pair (a i j) (b (m - i) (n - j))) (M.scalars.of_nat (choose m i * choose n j))

  abbrev pub product_by : {B C : Type 0} → (B → C → A) → (ℕ → ℕ → B) → (ℕ → ℕ → C) → ℕ → ℕ → A
  product_by pair a b m n = in_rows M.plus M.zero (leibniz pair a b m n) (suc m) (suc n)

module _ {A : Type 0} (K : Kind A) where
  abbrev pub product : (ℕ → ℕ → A) → (ℕ → ℕ → A) → ℕ → ℕ → A
  product = product_by (regular K) K.times

  -- what is left of num[m][n] for d[0][0] · q[m][n]: the other terms of the rule, subtracted in turn, those of i = 0 from j = 1 on
  abbrev pub dividend : (ℕ → ℕ → A) → (ℕ → ℕ → A) → (ℕ → ℕ → A) → ℕ → ℕ → A
  dividend num d q m n =
      let term = leibniz (regular K) K.times d q m n in
      in_rows K.minus (in_turn K.minus (num m n) (λ j. term 0 (suc j)) n) (λ i. term (suc i)) m (suc n)

  -- an entry of the quotient num / d, from the entries q before it
  abbrev pub quotient_entry : (ℕ → ℕ → A) → (ℕ → ℕ → A) → (ℕ → ℕ → A) → ℕ → ℕ → A
  quotient_entry num d q m n = K.over (dividend num d q m n) (d 0 0)

  abbrev pub quotient : (ℕ → ℕ → A) → (ℕ → ℕ → A) → ℕ → ℕ → A
  quotient num d = rising_rows K.zero (quotient_entry num d)

  -- the dividend of the quotient's own entry [m][n]
  abbrev pub quotient_dividend : (ℕ → ℕ → A) → (ℕ → ℕ → A) → ℕ → ℕ → A
  quotient_dividend num d m n = dividend num d (before_entry K.zero (quotient_entry num d) m n) m n
