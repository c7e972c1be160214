-- The cases of `counted`, each by the tests that lead to it. Assumes nothing.
use Rattle.std.proofs.Common.{◌≡◌, refl, ap, ap₂, Bool, false, cond, List, [], ◌∷◌, Ok, Err, ℕ, ◌≤◌, ◌<◌, arith, length, get_or, lt-ltb, le-ltb}
use Rattle.partitions.specs.Parts.{total, multiplicity}
use Rattle.partitions.specs.Count.{falls, is_list, counted}
use Rattle.refusals.specs.declared.Refusal.TheVariants.{OrderAbove20, NoPartList}

module _ (l : List ℕ) where
  pub counted-high : 20 < total l → counted l ≡ Err OrderAbove20
  unfolding counted
  counted-high h = ap (λ (b : Bool). cond b (Err OrderAbove20) (cond (is_list l) (Ok (multiplicity l)) (Err NoPartList))) (lt-ltb 20 (total l) h)

  pub counted-by : (b : Bool) → total l ≤ 20 → is_list l ≡ b → counted l ≡ cond b (Ok (multiplicity l)) (Err NoPartList)
  unfolding counted
  counted-by b h e = ap₂ (λ (g c : Bool). cond g (Err OrderAbove20) (cond c (Ok (multiplicity l)) (Err NoPartList))) (le-ltb 20 (total l) h) e

pub list-test : (l : List ℕ) → 0 < length l → falls (get_or l 0 0) l ≡ is_list l
list-test [] h = absurd (omega arith)
list-test (a ∷ l) h = refl

pub no-list : (l : List ℕ) → length l ≡ 0 → is_list l ≡ false
no-list [] h = refl
no-list (a ∷ l) h = absurd (omega arith)
