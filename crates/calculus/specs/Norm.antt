-- The derivatives of a norm, |s|, from |s|² = s · s, in the source's order of terms (`absolute_derivatives`). Assumes nothing.
use Rattle.std.specs.Prelude.{Bool, cond, ◌&&◌, ◌||◌, ℕ, zero, suc, ◌-◌, eqb}
use Rattle.calculus.specs.Kind.{Kind, regular}
use Rattle.calculus.specs.InTurn.{in_turn, in_rows}
use Rattle.calculus.specs.Rising.{rising, rising_rows}
use Rattle.calculus.specs.Choose.{choose}
use Rattle.calculus.specs.Surface.{leibniz, product_by}

-- the first and the last place of those up to [m][n]
abbrev pub at_end : ℕ → ℕ → ℕ × ℕ → Bool
at_end m n p = (eqb p.0 0 && eqb p.1 0) || (eqb p.0 m && eqb p.1 n)

module _ {S A : Type 0} (K : Kind S) (root : S → S) (dot : A → A → S) where
  -- A curve, from |s| · |s|' = s · s': at the order m + 1 the i-th term is (s[i+1] · s[m-i] - q[i+1] · q[m-i]) · C(m, i), and the sum is
  -- divided by q[0]. The last term reads the entry itself, which is zero until it is formed.
  abbrev pub norm_term : (ℕ → A) → (ℕ → S) → ℕ → ℕ → S
  norm_term s q m i =
      K.times (K.minus (dot (s (suc i)) (s (m - i))) (K.times (q (suc i)) (q (m - i)))) (K.of_nat (choose m i))

  abbrev pub norm_entry : (ℕ → A) → (ℕ → S) → ℕ → S
  norm_entry s q zero = root (dot (s 0) (s 0))
  norm_entry s q (suc m) = K.over (in_turn K.plus K.zero (norm_term s q m) (suc m)) (q 0)

  abbrev pub norm : (ℕ → A) → ℕ → S
  norm s = rising K.zero (norm_entry s)

  -- A surface: (s · s - |s| · |s|) / (q[0][0] + q[0][0]) at [m][n], where |s| · |s| is summed but for its first and its last term, which
  -- hold the entry [m][n] itself.
  abbrev pub others : (ℕ → ℕ → S) → ℕ → ℕ → S
  others q m n =
      in_rows (λ sum p. cond (at_end m n p) sum (K.plus sum (leibniz (regular K) K.times q q m n p.0 p.1))) K.zero
      (λ i j. (i, j)) (suc m) (suc n)

  abbrev pub surface_norm_entry : (ℕ → ℕ → A) → (ℕ → ℕ → S) → ℕ → ℕ → S
  surface_norm_entry s q m n =
      cond (eqb m 0 && eqb n 0) (root (dot (s 0 0) (s 0 0)))
      (K.over (K.minus (product_by (regular K) dot s s m n) (others q m n)) (K.plus (q 0 0) (q 0 0)))

  abbrev pub surface_norm : (ℕ → ℕ → A) → ℕ → ℕ → S
  surface_norm s = rising_rows K.zero (surface_norm_entry s)
