-- Where the entries of a surface's list stand: row after row, and all within it. Assumes nothing.
use Rattle.std.proofs.Common.{◌≡◌, ap, List, ℕ, zero, suc, ◌+◌, ◌-◌, ◌≤◌, ◌<◌, add-one, arith, get_or}
use Rattle.calculus.specs.Graded.{triangle, index}
use Rattle.calculus.proofs.Graded.{triangle-suc}
use Rattle.calculus.specs.Order.{row_start, list_place}

-- the entries of an array, and of a surface's; a blank past its end
abbrev pub numbers_in : {X : Type 0} → X → List X → ℕ → X
numbers_in blank l k = get_or l k blank

abbrev pub surface_in : {X : Type 0} → X → List X → ℕ → ℕ → X
surface_in blank l i j = get_or l (index i j) blank

pub row-turn : (n i : ℕ) → row_start n (i + 1) ≡ row_start n i + (suc n - i)
unfolding row_start
row-turn n i = ap (row_start n) (add-one i)

-- the rows from i on have the rest of the entries
rows-rest : (n i : ℕ) → i ≤ suc n → row_start n i + triangle (suc n - i) ≡ triangle (suc n)
unfolding row_start
rows-rest n zero h =
    let e : suc n - 0 ≡ suc n = omega arith in
    omega (arith, ap triangle e)
rows-rest n (suc i) h =
    let e : suc n - i ≡ suc (suc n - suc i) = omega arith in
    omega (arith, rows-rest n i (omega arith), ap triangle e, triangle-suc (suc n - suc i))

pub list-place : (n i j : ℕ) → i + j ≤ n → list_place n i j < triangle (suc n)
list-place n i j h =
    let e : suc n - i ≡ suc (n - i) = omega arith in
    omega (arith, rows-rest n i (omega arith), ap triangle e, triangle-suc (n - i))
