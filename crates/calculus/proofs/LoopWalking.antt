-- A walk over the part lists that is stepped to its end: what each step hands out, and what is left. Assumes nothing.
use Rattle.std.proofs.Common.{◌≡◌, refl, sym, ◌∙◌, ap, ap₂, subst, true, List, [], ◌∷◌, ℕ, ◌-◌, ◌^◌, ◌≤◌, ◌<◌, le_trans, lt_of_le_of_lt, lit<, arith, le-ltb, length, take, take_at, replicate, Option, Some, None, Result, Ok, Err}
use mathlib.Core.List.{nil≢cons}
use Rattle.partitions.specs.Parts.{total, fact, lists, multiplicity}
use Rattle.partitions.specs.Count.{is_list, counted}
use Rattle.refusals.specs.declared.Refusal.{Refusal}
use Rattle.partitions.specs.Walk.{padded, tested, started, stepped, remaining, moved}
use Rattle.partitions.specs.declared.CompositionIter.{CompositionIter}
use Rattle.partitions.proofs.Down.{long}
use Rattle.partitions.proofs.Lists.{Every, head_of, tail_of, Is, sound}
use Rattle.partitions.proofs.Member.{list-down, down-list}
use Rattle.partitions.proofs.Successor.{first}
use Rattle.partitions.proofs.Exact.{fact-most, divide-most}
use Rattle.partitions.proofs.Walked.{in-range, least-times, first_walk, started-is, started-remains, stepped-first, stepped-end, moved-remains, moved-end}
use Rattle.calculus.specs.InTurn.{along_list}

-- ---- how often a list counts
pub multiplicity-fits : (l : List ℕ) → total l ≤ 20 → multiplicity l < 2 ^ 63
unfolding multiplicity fact
multiplicity-fits l h =
    lt_of_le_of_lt (le_trans (divide-most _ _) (le_trans (divide-most _ l) (fact-most (total l) 20 h))) (lit< {m = fact 20} {n = 2 ^ 63} tt)

pub counted-list : (l : List ℕ) → is_list l ≡ true → total l ≤ 20 → counted l ≡ Ok (multiplicity l)
unfolding counted
counted-list l e h = rw (le-ltb 20 (total l) h, e)

pub list-short : (l : List ℕ) → is_list l ≡ true → total l ≤ 20 → length l ≤ 20
list-short l e h = le_trans (long (list-down l e)) h

-- ---- answers that differ
none-some : {p : List ℕ} → ◌≡◌ {A = Result (Option (List ℕ)) Refusal} (Ok None) (Ok (Some p)) → ⊥
none-some e = cc

same-parts : {p q : List ℕ} → ◌≡◌ {A = Result (Option (List ℕ)) Refusal} (Ok (Some p)) (Ok (Some q)) → p ≡ q
same-parts e = cc

ok-err : {w : CompositionIter} {r : Refusal} → ◌≡◌ {A = Result CompositionIter Refusal} (Ok w) (Err r) → ⊥
ok-err e = cc

same_walk : {w v : CompositionIter} → ◌≡◌ {A = Result CompositionIter Refusal} (Ok w) (Ok v) → w ≡ v
same_walk e = cc

-- ---- a walk of an order and a len: its lists, and that it ends where none is left
pub record Walks (order len : ℕ) (w : CompositionIter) : Type 0 where
  pub of-order : w.order ≡ order
  pub of-len : w.len ≡ len
  pub all : Every (Is len order order) (remaining w)
  pub ends : remaining w ≡ [] → w.end ≡ true

-- a step of it that hands out the parts p: they are the first of its lists, and the others are left
pub record Goes (order len : ℕ) (w : CompositionIter) (p : List ℕ) (list : List ℕ) (rest : List (List ℕ)) : Type 0 where
  pub first : remaining w ≡ list ∷ rest
  pub parts : take len p ≡ list
  pub is : Is len order order list
  pub left : remaining (stepped w).walk ≡ rest
  pub walks : Walks order len (stepped w).walk

module _ (order len : ℕ) (h : 0 < len) (g : len ≤ order) (f : order ≤ 20) where
  range : (w : CompositionIter) → Walks order len w → tested w.order w.len ≡ Ok tt
  range w k = ap₂ tested k.of-order k.of-len ∙ in-range order len h g f

  moved_order : (w : CompositionIter) (ls : List (List ℕ)) → (moved w ls).order ≡ w.order
  moved_order w [] = refl
  moved_order w (l ∷ ls) = refl

  moved-len : (w : CompositionIter) (ls : List (List ℕ)) → (moved w ls).len ≡ w.len
  moved-len w [] = refl
  moved-len w (l ∷ ls) = refl

  pub goes : (w : CompositionIter) → Walks order len w → (p : List ℕ) → (stepped w).item ≡ Ok (Some p) →
      (list : List ℕ) × (rest : List (List ℕ)) × Goes order len w p list rest
  goes w k p e = by (remaining w) refl
    where
      by : (rs : List (List ℕ)) → remaining w ≡ rs → (list : List ℕ) × (rest : List (List ℕ)) × Goes order len w p list rest
      by [] r =
          let s = ap (λ x. x.item) (stepped-end w (range w k) (k.ends r)) in
          absurd (none-some (sym s ∙ e))
      by (l ∷ ls) r =
          let all = subst (Every (Is len order order)) r k.all in
          let s = stepped-first w l ls (range w k) r in
          let left = moved-remains w l ls r in
          let q : padded l ≡ p = same-parts (sym (ap (λ x. x.item) s) ∙ e) in (
            l,
            ls,
            record {
              first = r;
              parts = ap (take len) (sym q) ∙ take_at l (replicate (20 - length l) 0) len (head_of all).long;
              is = head_of all;
              left = ap (λ x. remaining x.walk) s ∙ left;
              walks = subst (Walks order len) (sym (ap (λ x. x.walk) s)) (record {
                of-order = moved_order w ls ∙ k.of-order;
                of-len = moved-len w ls ∙ k.of-len;
                all = subst (Every (Is len order order)) (sym left) (tail_of all);
                ends = λ z. moved-end w ls (sym left ∙ z);
              });
            },
          )

  -- where a step hands out nothing, no list is left
  pub over : (w : CompositionIter) → Walks order len w → ((p : List ℕ) → (stepped w).item ≡ Ok (Some p) → ⊥) → remaining w ≡ []
  over w k n = by (remaining w) refl
    where
      by : (rs : List (List ℕ)) → remaining w ≡ rs → remaining w ≡ []
      by [] r = r
      by (l ∷ ls) r = absurd (n (padded l) (ap (λ x. x.item) (stepped-first w l ls (range w k) r)))

  -- the start: it is not refused, and every list is left
  pub starts : Walks order len (first_walk order len)
  starts =
      let r = started-remains order len (in-range order len h g f) in
      let l = first len order order g (least-times order len h) in
      record {
        of-order = refl;
        of-len = refl;
        all = subst (Every (Is len order order)) (sym r) (sound len order order);
        ends = λ z. absurd (nil≢cons (sym z ∙ r ∙ l.1));
      }

  pub start : (w : CompositionIter) → started order len ≡ Ok w → Walks order len w × (remaining w ≡ lists order len)
  start w e =
      let q : first_walk order len ≡ w = same_walk (sym (started-is order len (in-range order len h g f)) ∙ e) in
      (subst (Walks order len) q starts, subst (λ x. remaining x ≡ lists order len) q (started-remains order len (in-range order len h g f)))

  pub not-refused : (r : Refusal) → started order len ≡ Err r → ⊥
  not-refused r e = ok-err (sym (started-is order len (in-range order len h g f)) ∙ e)

  -- a list that is handed out
  nonempty : (l : List ℕ) → Is len order order l → is_list l ≡ true
  nonempty [] i = absurd (omega (arith, i.long))
  nonempty (a ∷ l) i = down-list i.down

  pub is-list : (l : List ℕ) → Is len order order l → (is_list l ≡ true) × (total l ≤ 20)
  is-list l i = (nonempty l i, omega (arith, i.sums))

-- ---- a step of a walk: what it hands out is a part list, which the running total takes in
pub record Handed (order len : ℕ) (w next : CompositionIter) (list : List ℕ) : Type 0 where
  pub falling : is_list list ≡ true
  pub small : total list ≤ 20
  pub short : length list ≤ 20
  pub first : remaining w ≡ list ∷ remaining next
  pub walks : Walks order len next

module _ {order len : ℕ} (r : (0 < len) × (len ≤ order) × (order ≤ 20)) {w : CompositionIter} (k : Walks order len w) where
  -- where it hands out nothing, the total is reached
  pub all-taken : {A B : Type 0} (op : A → B → A) (t : List ℕ → B) (sum : A) {all : A} → ((p : List ℕ) → (stepped w).item ≡ Ok (Some p) → ⊥) → along_list op sum t (remaining w) ≡ all → sum ≡ all
  unfolding along_list
  all-taken op t sum n a = sym (ap (along_list op sum t) (over order len r.0 r.1 r.2 w k n)) ∙ a

  pub hands-out : {p : List ℕ} {next : CompositionIter} → (stepped w).item ≡ Ok (Some p) → next ≡ (stepped w).walk → Handed order len w next (take len p)
  hands-out {p} e n =
      let s = (goes order len r.0 r.1 r.2 w k p e).2 in
      let i = is-list order len r.0 r.1 r.2 _ s.is in
      let f : is_list (take len p) ≡ true = ap is_list s.parts ∙ i.0 in
      let g : total (take len p) ≤ 20 = subst (λ l. total l ≤ 20) (sym s.parts) i.1 in
      record {
        falling = f;
        small = g;
        short = list-short (take len p) f g;
        first = s.first ∙ ap₂ (λ l ls. l ∷ ls) (sym s.parts) (sym s.left ∙ ap remaining (sym n));
        walks = subst (Walks order len) (sym n) s.walks;
      }

module _ {order len : ℕ} {w next : CompositionIter} {list : List ℕ} (h : Handed order len w next list) where
  pub fewer : length (remaining next) < length (remaining w)
  fewer = omega (arith, ap length h.first)

  pub takes-in : {A B : Type 0} (op : A → B → A) (t : List ℕ → B) (sum : A) {all : A} {x : B} → along_list op sum t (remaining w) ≡ all → x ≡ t list → along_list op (op sum x) t (remaining next) ≡ all
  unfolding along_list
  takes-in op t sum a i = ap (λ y. along_list op (op sum y) t (remaining next)) i ∙ sym (ap (along_list op sum t) h.first) ∙ a
