-- Binomial coefficients, by Pascal's rule. Assumes nothing.
use Rattle.std.specs.Prelude.{List, ℕ, zero, suc, ◌+◌}
use Rattle.calculus.specs.Graded.{graded}
use Rattle.calculus.specs.Array.{listed}

unfoldable pub choose : ℕ → ℕ → ℕ
choose zero zero = 1
choose zero (suc k) = 0
choose (suc n) zero = 1
choose (suc n) (suc k) = choose n k + choose n (suc k)

-- the coefficients of the orders 0 to 20, order after order: [i][j] is the i-th of the order i + j
abbrev pub binomial_table : List ℕ
binomial_table = listed (graded (λ i j. choose (i + j) i)) 0 231
