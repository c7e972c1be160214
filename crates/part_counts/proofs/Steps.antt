-- The total is what a walk comes to: whoever starts one, takes its steps until one says that it has ended, and adds the multiplicities of the lists that
-- they hand out, has the same number, and the same refusal. Assumes nothing.
use Rattle.std.proofs.Common.{◌≡◌, refl, sym, ◌∙◌, ap, ap₂, subst, true, List, [], ◌∷◌, ℕ, ◌+◌, take, Some, None, Result, Ok, Err}
use Rattle.refusals.specs.declared.Refusal.{Refusal}
use Rattle.partitions.specs.Parts.{lists}
use Rattle.partitions.specs.Count.{counted, total_count}
use Rattle.partitions.specs.Walk.{tested, started, started_by, stepped, remaining, moved}
use Rattle.partitions.specs.declared.CompositionIter.{CompositionIter}
use Rattle.partitions.proofs.Walked.{first_walk, started-is, started-remains, some-list, stepped-first, stepped-end, first-counted, moved-remains, moved-range, moved-end}
use Rattle.part_counts.specs.Total.{total_by, total_of}

-- from this walk on the steps hand out lists until one says that the walk has ended, and the multiplicities of the lists come to this number
pub data AddUp : CompositionIter → ℕ → Type 0 where
  ended : {w : CompositionIter} → (stepped w).item ≡ Ok None → AddUp w 0
  counts : {w : CompositionIter} {p : List ℕ} {m n : ℕ} → (stepped w).item ≡ Ok (Some p) → counted (take w.len p) ≡ Ok m → AddUp (stepped w).walk n → AddUp w (m + n)

-- the start and the total are refused alike; where they are not, the steps add up to the total
pub data OfSteps : Result CompositionIter Refusal → Result ℕ Refusal → Type 0 where
  refused : (r : Refusal) → OfSteps (Err r) (Err r)
  total : {w : CompositionIter} {n : ℕ} → AddUp w n → OfSteps (Ok w) (Ok n)

add-up : (w : CompositionIter) (ls : List (List ℕ)) → tested w.order w.len ≡ Ok tt → remaining w ≡ ls → (ls ≡ [] → w.end ≡ true) → AddUp w (total_count ls)
unfolding total_count
add-up w [] t e f = ended (ap (λ s. s.item) (stepped-end w t (f refl)))
add-up w (l ∷ ls) t e f =
    let s = stepped-first w l ls t e in
    let others = add-up (moved w ls) ls (moved-range w ls t) (moved-remains w l ls e) (moved-end w ls) in
    counts (ap (λ s. s.item) s) (first-counted w l ls t e) (subst (λ s. AddUp s.walk (total_count ls)) (sym s) others)

pub of-steps : (order len : ℕ) → OfSteps (started order len) (total_of order len)
unfolding started total_of
of-steps order len = by (tested order len) refl
  where
    by : (t : Result (Unit {0}) Refusal) → tested order len ≡ t → OfSteps (started_by order len t) (total_by order len t)
    by (Err r) e = refused r
    by (Ok u) e =
        let w = first_walk order len in
        let sum = add-up w (lists order len) e (started-remains order len e) (λ f. absurd (some-list order len e f)) in
        subst (λ s. OfSteps s (Ok (total_count (lists order len)))) (sym (sym (ap (started_by order len) e) ∙ started-is order len e)) (total sum)

-- a walk's steps add up to one number alone
pub one-sum : {w : CompositionIter} {m n : ℕ} → AddUp w m → AddUp w n → m ≡ n
one-sum (ended e) (ended f) = refl
one-sum (ended e) (counts f g s) = cc
one-sum (counts e g s) (ended f) = cc
one-sum {w} (counts {p = p} {m = m} e g s) (counts {p = q} {m = k} f h t) =
    let same-list : p ≡ q = let z = sym e ∙ f in cc in
    let same-count : m ≡ k = let z = sym g ∙ ap (λ x. counted (take w.len x)) same-list ∙ h in cc in
    ap₂ ◌+◌ same-count (one-sum s t)
