-- The quotient rule, in the source's order of terms (`rational_derivatives`), for entries of any kind over weights: from x = q · w,
-- q[m] = (x[m] - Σ, i < m, C(m, i) · q[i] · w[m - i]) / w[0]. Assumes nothing.
use Rattle.std.specs.Prelude.{ℕ, suc, ◌-◌}
use Rattle.calculus.specs.Kind.{Module}
use Rattle.calculus.specs.InTurn.{in_turn, in_rows}
use Rattle.calculus.specs.Rising.{rising, rising_rows}
use Rattle.calculus.specs.Choose.{choose}

-- over divides an entry by a number
module _ {S A : Type 0} (M : Module S A) (over : A → S → A) where
  -- the i-th term at the order m, of a curve: q[i] · (w[m - i] · coefficient)
  abbrev pub rational_term : (ℕ → S) → (ℕ → A) → ℕ → ℕ → A
  rational_term w q m i = M.scale (q i) (M.scalars.times (w (m - i)) (M.scalars.of_nat (choose m i)))

  -- The sum starts from q[0] · w[m], with no coefficient. At m = 0 that is zero times w[0], since no entry stands before it.
  abbrev pub rational_entry : (ℕ → A) → (ℕ → S) → (ℕ → A) → ℕ → A
  rational_entry x w q m = over (M.minus (x m) (in_turn M.plus (M.scale (q 0) (w m)) (λ i. rational_term w q m (suc i)) (m - 1))) (w 0)

  abbrev pub rational : (ℕ → A) → (ℕ → S) → ℕ → A
  rational x w = rising M.zero (rational_entry x w)

  -- the term [i][j] at [m][n], of a surface: q[i][j] · ((w[m - i][n - j] · coefficient) · coefficient)
  abbrev pub surface_rational_term : (ℕ → ℕ → S) → (ℕ → ℕ → A) → ℕ → ℕ → ℕ → ℕ → A
  surface_rational_term w q m n i j =
      let K = M.scalars in
      M.scale (q i j) (K.times (K.times (w (m - i) (n - j)) (K.of_nat (choose m i))) (K.of_nat (choose n j)))

  -- The sum starts from zero and takes in all terms: the last one too, of the entry itself, which is zero until it is formed.
  abbrev pub surface_rational_entry : (ℕ → ℕ → A) → (ℕ → ℕ → S) → (ℕ → ℕ → A) → ℕ → ℕ → A
  surface_rational_entry x w q m n = over (M.minus (x m n) (in_rows M.plus M.zero (surface_rational_term w q m n) (suc m) (suc n))) (w 0 0)

  abbrev pub surface_rational : (ℕ → ℕ → A) → (ℕ → ℕ → S) → ℕ → ℕ → A
  surface_rational x w = rising_rows M.zero (surface_rational_entry x w)
