-- Where an entry of a surface stands, as the code works it out, how many they are, and how large coefficients. Assumes nothing.
use Rattle.std.proofs.Common.{◌≡◌, sym, ap₂, ◌∙◌, subst, cond, ℕ, suc, ◌+◌, ◌*◌, ◌^◌, ◌≤◌, ◌<◌, lt_of_le_of_lt, arith, ltb, le-ltb}
use Rattle.calculus.specs.Graded.{triangle, index}
use Rattle.calculus.specs.Choose.{choose}
use Rattle.calculus.proofs.Graded.{index-231}
use Rattle.calculus.proofs.LoopPascal.{choose-small}

-- where [i][j] stands, as the code works it out, is a place of the array
pub in_array : {k : ℕ} (i j : ℕ) → k ≡ index i j → i + j ≤ 20 → k < 231
in_array i j e h = rw e (index-231 i j h)

-- how many entries a list has for a surface, as `calculus::surface_count` answers
pub counted : {n r : ℕ} → n ≤ 20 → r ≡ cond (ltb 20 n) 0 (triangle (suc n)) → r ≡ triangle (suc n)
counted {n} h e = e ∙ rw (le-ltb 20 n h)

-- the product of two coefficients whose orders total at most 20 fits 32 bits
pub small_product : {x y : ℕ} (m n i j : ℕ) → x ≡ choose m i → y ≡ choose n j → m + n ≤ 20 → x * y < 2 ^ 32
small_product {x} {y} m n i j p q h =
    lt_of_le_of_lt (subst (λ (z : ℕ). z ≤ 1048576) (sym (ap₂ ◌*◌ p q)) (choose-small m n i j h)) (omega arith)
