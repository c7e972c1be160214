-- The total of an order and a len by the triangle. Assumes nothing.
use Rattle.std.proofs.Common.{◌≡◌, refl, ap, Bool, true, false, cond, ℕ, suc, arith, ltb, eqb, Result, Ok, Err}
use Rattle.refusals.specs.declared.Refusal.{Refusal}
use Rattle.refusals.specs.declared.Refusal.TheVariants.{OrderAbove20, NoPartList}
use Rattle.partitions.specs.Parts.{lists}
use Rattle.partitions.specs.Count.{stirling, stirling_of, total_count}
use Rattle.partitions.specs.Walk.{tested}
use Rattle.partitions.proofs.Tests.{by-leb, by_eqb}
use Rattle.part_counts.specs.Total.{total_by, total_of}
use Rattle.part_counts.proofs.Stirling.{count-is}

-- what the triangle answers, but for no parts
abbrev pub of_parts : Bool → Result ℕ Refusal → Result ℕ Refusal
of_parts none (Ok n) = cond none (Err NoPartList) (Ok n)
of_parts none (Err r) = Err r

pub total_is : (n k : ℕ) → total_of n k ≡ of_parts (eqb k 0) (stirling_of n k)
unfolding total_of stirling_of
total_is n k =
    by-leb 21 n
    (λ b. total_by n k (cond b (Err OrderAbove20) (cond (eqb k 0) (Err NoPartList) (cond (ltb n k) (Err NoPartList) (Ok tt))))
    ≡ of_parts (eqb k 0) (cond b (Err OrderAbove20) (cond (ltb n k) (Err NoPartList) (Ok (stirling n k)))))
    (λ _. refl)
    (λ h. by_eqb k 0
    (λ c. total_by n k (cond c (Err NoPartList) (cond (ltb n k) (Err NoPartList) (Ok tt))) ≡ of_parts c (cond (ltb n k) (Err NoPartList) (Ok (stirling n k))))
    (λ _. by-leb (suc n) k (λ b. Err NoPartList ≡ of_parts true (cond b (Err NoPartList) (Ok (stirling n k)))) (λ _. refl) (λ _. refl))
    (λ _. by-leb (suc n) k (λ b. total_by n k (cond b (Err NoPartList) (Ok tt)) ≡ of_parts false (cond b (Err NoPartList) (Ok (stirling n k))))
    (λ _. refl) (λ g. ap Ok (count-is n k (omega arith) (omega arith)))))

pub total-listed : (n k : ℕ) → tested n k ≡ Ok tt → total_of n k ≡ Ok (total_count (lists n k))
unfolding total_of
total-listed n k e = ap (total_by n k) e
