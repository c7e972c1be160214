-- How many part lists an order to 20 can have of each len. Assumes nothing.
use Rattle.std.proofs.Common.{sym, subst, Bool, List, [], ◌∷◌, ℕ, ◌≤◌, arith, T, leb, leb→le, length, get_or}
use Rattle.partitions.specs.Parts.{lists}
use Rattle.partitions.proofs.Below.{below, below_at}
use Rattle.part_counts.proofs.Pruned.{pruned, pruned-is}

-- the most lists of the len 0, 1, ..: from 1 on, those of order 20
unfoldable pub most : List ℕ
most = 1 ∷ 1 ∷ 10 ∷ 33 ∷ 64 ∷ 84 ∷ 90 ∷ 82 ∷ 70 ∷ 54 ∷ 42 ∷ 30 ∷ 22 ∷ 15 ∷ 11 ∷ 7 ∷ 5 ∷ 3 ∷ 2 ∷ 1 ∷ 1 ∷ []

few : ℕ → ℕ → Bool
few n k = leb (length (pruned k n n)) (get_or most k 0)

few-to-20 : T (below 21 (λ n. below 21 (few n)))
unfolding few pruned most
few-to-20 = tt

pub lists-few : (n k : ℕ) → n ≤ 20 → k ≤ 20 → length (lists n k) ≤ get_or most k 0
unfolding few
lists-few n k h g =
    subst (λ (ls : List (List ℕ)). length ls ≤ get_or most k 0) (sym (pruned-is k n n))
    (leb→le (length (pruned k n n)) (get_or most k 0) (below_at 21 (few n) (below_at 21 (λ m. below 21 (few m)) few-to-20 n (omega arith)) k (omega arith)))
