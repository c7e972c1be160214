-- Jets over ℤ: derivatives by order. A curve's has one order, a surface's two. Their products are Leibniz's rule.
-- Assumes nothing.
use Rattle.std.proofs.Common.{ℕ, suc, ◌-◌, ℤ, pos}
use Rattle.calculus.specs.Choose.{choose as binom}
use Rattle.calculus.proofs.Ints.{◌⊗◌, sum}

abbrev pub Curve : Type 0
Curve = ℕ → ℤ

abbrev pub Surface : Type 0
Surface = ℕ → ℕ → ℤ

unfoldable pub curve_mul : Curve → Curve → Curve
curve_mul a b m = sum (suc m) (λ i. (a i ⊗ b (m - i)) ⊗ pos (binom m i))

unfoldable pub surface_mul : Surface → Surface → Surface
surface_mul a b m n = sum (suc m) (λ i. sum (suc n) (λ j. (a i j ⊗ b (m - i) (n - j)) ⊗ (pos (binom m i) ⊗ pos (binom n j))))

-- three variables
abbrev pub Solid : Type 0
Solid = ℕ → ℕ → ℕ → ℤ

unfoldable pub solid_mul : Solid → Solid → Solid
solid_mul a b m n o =
    sum (suc m) (λ i. sum (suc n) (λ j. sum (suc o) (λ k.
    (a i j k ⊗ b (m - i) (n - j) (o - k)) ⊗ (pos (binom m i) ⊗ (pos (binom n j) ⊗ pos (binom o k))))))
