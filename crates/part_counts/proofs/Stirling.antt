-- The multiplicities of the part lists of an order and a len add up to the Stirling number of the second kind, to order 20, and to less than 2^53.
-- Assumes nothing.
use Rattle.std.proofs.Common.{◌≡◌, sym, ◌∙◌, ap, subst, Bool, ℕ, suc, ◌^◌, ◌≤◌, ◌<◌, arith, T, eqb, ltb, eqb→eq, ltb→lt}
use Rattle.partitions.specs.Parts.{total, lists, fact, divide, runs_from, runs, multiplicity}
use Rattle.partitions.specs.Count.{stirling, total_count}
use Rattle.partitions.proofs.Triangle.{entry, triangle-at}
use Rattle.partitions.proofs.Below.{both, both_left, both_right, below, below_at}
use Rattle.part_counts.proofs.Pruned.{pruned, pruned-is}

counts-right : ℕ → ℕ → Bool
counts-right n k = let s = entry n k in both (eqb (total_count (pruned k n n)) s) (ltb s (2 ^ 53))

right-to-20 : T (below 21 (λ n. below (suc n) (counts-right n)))
unfolding counts-right total_count pruned multiplicity divide runs runs_from total fact
right-to-20 = tt

right-at : (n k : ℕ) → n ≤ 20 → k ≤ n → T (counts-right n k)
right-at n k h g = below_at (suc n) (counts-right n) (below_at 21 (λ m. below (suc m) (counts-right m)) right-to-20 n (omega arith)) k (omega arith)

by_entry : (n k : ℕ) → n ≤ 20 → k ≤ n → total_count (lists n k) ≡ entry n k
unfolding counts-right
by_entry n k h g =
    let s = entry n k in
    ap total_count (pruned-is k n n) ∙ eqb→eq (total_count (pruned k n n)) s (both_left (eqb (total_count (pruned k n n)) s) (ltb s (2 ^ 53)) (right-at n k h g))

-- the lists of n in k parts, each counted as often as it counts, are the partitions of a set of n into k blocks
pub count-is : (n k : ℕ) → n ≤ 20 → k ≤ n → total_count (lists n k) ≡ stirling n k
count-is n k h g = by_entry n k h g ∙ triangle-at n k h g

pub count-below : (n k : ℕ) → n ≤ 20 → k ≤ n → total_count (lists n k) < 2 ^ 53
unfolding counts-right
count-below n k h g =
    let s = entry n k in
    subst (λ (x : ℕ). x < 2 ^ 53) (sym (by_entry n k h g)) (ltb→lt s (2 ^ 53) (both_right (eqb (total_count (pruned k n n)) s) (ltb s (2 ^ 53)) (right-at n k h g)))
