-- Multiplicities to order 20 are below 2^53, so a float holds each: none is above the total of its order and len. Assumes nothing.
use Rattle.std.proofs.Common.{◌≡◌, refl, sym, subst, Bool, true, List, ℕ, ◌+◌, ◌^◌, ◌≤◌, ◌<◌, lt_of_le_of_lt, le_of_lt, arith, T, pos, length, le-leb}
use mathlib.Core.List.{Memᴰ}
use lib.Ieee.{binary64, in_float}
use Rattle.partitions.specs.Parts.{total, multiplicity}
use Rattle.partitions.specs.Count.{is_list, total_count}
use Rattle.partitions.proofs.Down.{long}
use Rattle.partitions.proofs.Lists.{complete}
use Rattle.partitions.proofs.Member.{list-down}
use Rattle.part_counts.proofs.Stirling.{count-below}

-- a list counts no more than all lists together
one_of : {l : List ℕ} {ls : List (List ℕ)} → Memᴰ l ls → multiplicity l ≤ total_count ls
unfolding total_count
one_of (Memᴰ.head {x} {xs} e) = subst (λ (z : List ℕ). multiplicity z ≤ multiplicity x + total_count xs) (sym e) (omega arith)
one_of (Memᴰ.tail {x} {xs} m) = omega (arith, one_of m)

pub multiplicity-below : (l : List ℕ) → is_list l ≡ true → total l ≤ 20 → multiplicity l < 2 ^ 53
multiplicity-below l e h =
    let d = list-down l e in
    let g : length l ≤ total l = long d in
    let m = complete (length l) (total l) (total l) l (record { down = d; long = refl; sums = refl }) in
    lt_of_le_of_lt (one_of m) (count-below (total l) (length l) h g)

pub held : (n : ℕ) → n < 2 ^ 53 → T (in_float binary64 (pos n))
unfolding in_float
held n h = subst (λ (b : Bool). T b) (sym (le-leb n (2 ^ 53) (le_of_lt h))) tt
