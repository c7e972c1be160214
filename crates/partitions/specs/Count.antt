-- Counts: the multiplicity of a list handed in, factorials, and the Stirling numbers of the second kind. Assumes nothing.
use Rattle.std.specs.Prelude.{Bool, true, false, cond, List, [], ◌∷◌, ℕ, zero, suc, ◌+◌, ◌*◌, ltb, eqb, Result, Ok, Err}
use Rattle.refusals.specs.declared.Refusal.{Refusal}
use Rattle.refusals.specs.declared.Refusal.TheVariants.{OrderAbove20, NoPartList}
use Rattle.partitions.specs.Parts.{total, fact, multiplicity}

-- positive, and none greater than the one before it, the first at most m
unfoldable pub falls : ℕ → List ℕ → Bool
falls m [] = true
falls m (a ∷ l) = cond (eqb a 0) false (cond (ltb m a) false (falls a l))

-- positive and nonincreasing, and at least one
abbrev pub is_list : List ℕ → Bool
is_list [] = false
is_list (a ∷ l) = falls a (a ∷ l)

-- a list's order is its sum
unfoldable pub counted : List ℕ → Result ℕ Refusal
counted l = cond (ltb 20 (total l)) (Err OrderAbove20) (cond (is_list l) (Ok (multiplicity l)) (Err NoPartList))

unfoldable pub factorial_of : ℕ → Result ℕ Refusal
factorial_of n = cond (ltb 20 n) (Err OrderAbove20) (Ok (fact n))

-- S(n + 1, k + 1) = (k + 1) S(n, k + 1) + S(n, k)
unfoldable pub stirling : ℕ → ℕ → ℕ
stirling zero zero = 1
stirling zero (suc k) = 0
stirling (suc n) zero = 0
stirling (suc n) (suc k) = suc k * stirling n (suc k) + stirling n k

unfoldable pub stirling_of : ℕ → ℕ → Result ℕ Refusal
stirling_of n k = cond (ltb 20 n) (Err OrderAbove20) (cond (ltb n k) (Err NoPartList) (Ok (stirling n k)))

-- the multiplicities of some lists, added
unfoldable pub total_count : List (List ℕ) → ℕ
total_count [] = 0
total_count (l ∷ ls) = multiplicity l + total_count ls
