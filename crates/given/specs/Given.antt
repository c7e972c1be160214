-- The tests of what a caller hands over, before any work: 0 where it is fit, 1 for an order above 20, 2 for a list whose count of numbers is not
-- the one that is due. Assumes nothing.
use Rattle.std.specs.Prelude.{cond, ℕ, suc, ◌*◌, min, ltb, eqb}
use Rattle.calculus.specs.Graded.{triangle}

-- the first refusal of two: document 01 checks 1 to 4 in the order of their numbers
unfoldable pub first : ℕ → ℕ → ℕ
first a b = cond (eqb a 0) b (cond (eqb b 0) a (min a b))

-- an order
abbrev pub order_given : ℕ → ℕ
order_given n = cond (ltb 20 n) 1 0

-- a list of l numbers, where so many are due
abbrev pub count_given : ℕ → ℕ → ℕ
count_given due l = cond (eqb l due) 0 2

-- a list of l numbers as a jet of the order n, which has so many
abbrev pub list_given : (ℕ → ℕ) → ℕ → ℕ → ℕ
list_given count n l = cond (ltb 20 n) 1 (count_given (count n) l)

abbrev pub curve_given : ℕ → ℕ → ℕ
curve_given = list_given (λ n. suc n)

abbrev pub surface_given : ℕ → ℕ → ℕ
surface_given = list_given (λ n. triangle (suc n))

abbrev pub parameter_given : ℕ → ℕ → ℕ
parameter_given = list_given (λ n. 2 * suc n)

abbrev pub vector_curve_given : ℕ → ℕ → ℕ
vector_curve_given = list_given (λ n. 3 * suc n)

abbrev pub vector_surface_given : ℕ → ℕ → ℕ
vector_surface_given = list_given (λ n. 3 * triangle (suc n))
