-- The walk as a whole: a step hands out the first of the lists that remain and leaves the others, so that the walk gives each list once,
-- greatest first, and says that it has ended after exactly as many steps as there are lists. Assumes nothing.
use Rattle.std.proofs.Common.{◌≡◌, refl, sym, ◌∙◌, ap, subst, Bool, true, false, cond, true≢false, List, [], ◌∷◌, ◌++◌, map, ℕ, zero, suc, ◌-◌, ◌*◌, ◌≤◌, ◌<◌, arith, ltb, eqb, length, get_or, take, drop, replicate, take_at, Option, Some, None, Result, Ok, Err, le-ltb, ne_eqb}
use mathlib.Core.List.{nil≢cons}
use Rattle.refusals.specs.declared.Refusal.{Refusal}
use Rattle.refusals.specs.declared.Refusal.TheVariants.{OrderAbove20, NoPartList}
use Rattle.partitions.specs.Parts.{lists, multiplicity}
use Rattle.partitions.specs.Count.{counted}
use Rattle.partitions.specs.Walk.{from, padded, tested, started, started_by, started_at, stepped, stepped_by, refused, at_end, remaining, moved, handed}
use Rattle.partitions.specs.Inner.{greatest, has_next, next_of}
use Rattle.partitions.specs.declared.CompositionIter.{CompositionIter}
use Rattle.partitions.specs.declared.Stepped.{Stepped}
use Rattle.partitions.proofs.Tests.{by-leb, by_eqb}
use Rattle.partitions.proofs.Lists.{Is}
use Rattle.partitions.proofs.Member.{from_is, from-head, from-here, down-list}
use Rattle.partitions.proofs.Counted.{counted-by}
use Rattle.partitions.proofs.Successor.{first, greatest-length, by_next, next-is}

-- ---- the range
pub in-range : (order len : ℕ) → 1 ≤ len → len ≤ order → order ≤ 20 → tested order len ≡ Ok tt
in-range order len h g f = simp (le-ltb 20 order f, ne_eqb len 0 (λ e. omega arith), le-ltb order len g)

abbrev pub InRange : ℕ → ℕ → Type 0
InRange order len = (1 ≤ len) × (len ≤ order) × (order ≤ 20)

refuses : {A : Type 0} (r : Refusal) → Path (Result (Unit {0}) Refusal) (Err r) (Ok tt) → A
refuses r e = cc

pub range-of : (order len : ℕ) → tested order len ≡ Ok tt → InRange order len
range-of order len =
    by-leb 21 order (λ b. cond b (Err OrderAbove20) (cond (eqb len 0) (Err NoPartList) (cond (ltb order len) (Err NoPartList) (Ok tt))) ≡ Ok tt → InRange order len)
    (λ _. refuses OrderAbove20)
    (λ h. by_eqb len 0 (λ b. cond b (Err NoPartList) (cond (ltb order len) (Err NoPartList) (Ok tt)) ≡ Ok tt → InRange order len) (λ _. refuses NoPartList)
    (λ g. by-leb (suc order) len (λ b. cond b (Err NoPartList) (Ok tt) ≡ Ok tt → InRange order len) (λ _. refuses NoPartList) (λ f _. (omega arith, omega arith, omega arith))))

-- ---- the start
pub least-times : (order len : ℕ) → 1 ≤ len → order ≤ order * len
least-times order zero h = absurd (omega arith)
least-times order (suc len) h = omega arith

-- the walk that a start hands out
abbrev pub first_walk : ℕ → ℕ → CompositionIter
first_walk order len = record { order = order; len = len; current = padded (greatest len order order); end = false }

pub started-is : (order len : ℕ) → tested order len ≡ Ok tt → started order len ≡ Ok (first_walk order len)
unfolding started
started-is order len e =
    let h = range-of order len e in
    let f = first len order order h.1 (least-times order len h.0) in
    ap (started_by order len) e ∙ ap (started_at order len) f.1

-- where it is handed out, the order and the len have part lists
pub started-range : (order len : ℕ) (w : CompositionIter) → started order len ≡ Ok w → tested order len ≡ Ok tt
unfolding started
started-range order len w e = by (tested order len) refl e
  where
    by : (t : Result (Unit {0}) Refusal) → tested order len ≡ t → started_by order len t ≡ Ok w → tested order len ≡ Ok tt
    by (Ok u) f e = f
    by (Err r) f e = cc

-- ---- a step
pub stepped-range : (w : CompositionIter) → tested w.order w.len ≡ Ok tt → stepped w ≡ cond w.end (at_end w) (handed w (remaining w))
unfolding stepped
stepped-range w e = ap (stepped_by w) e

-- a walk that has lists to hand out is not at its end, and holds the first of them
pub holds : (w : CompositionIter) (l : List ℕ) (ls : List (List ℕ)) → remaining w ≡ l ∷ ls →
    (w.end ≡ false) × (take w.len w.current ≡ l) × (from l (lists w.order w.len) ≡ l ∷ ls)
unfolding remaining
holds w l ls e =
    let h = not_end w.end (from (take w.len w.current) (lists w.order w.len)) e in
    let g = from-head (take w.len w.current) l ls (lists w.order w.len) h.1 in
    (h.0, g, ap (λ x. from x (lists w.order w.len)) (sym g) ∙ h.1)
  where
    not_end : (b : Bool) (xs : List (List ℕ)) → cond b [] xs ≡ l ∷ ls → (b ≡ false) × (xs ≡ l ∷ ls)
    not_end true xs e = absurd (nil≢cons e)
    not_end false xs e = (refl, e)

-- the first is one of the lists of the walk's order and len, and it is counted as it stands in what is handed out
pub first-is : (w : CompositionIter) (l : List ℕ) (ls : List (List ℕ)) → remaining w ≡ l ∷ ls → Is w.len w.order w.order l
first-is w l ls e = from_is w.len w.order w.order l l ls (holds w l ls e).2

pub first-shown : (w : CompositionIter) (l : List ℕ) (ls : List (List ℕ)) → remaining w ≡ l ∷ ls → take w.len (padded l) ≡ l
first-shown w l ls e = take_at l (replicate (20 - length l) 0) w.len (first-is w l ls e).long

pub first-counted : (w : CompositionIter) (l : List ℕ) (ls : List (List ℕ)) → tested w.order w.len ≡ Ok tt → remaining w ≡ l ∷ ls →
    counted (take w.len (padded l)) ≡ Ok (multiplicity l)
first-counted w l ls t e = ap counted (first-shown w l ls e) ∙ go l (first-is w l ls e)
  where
    h : InRange w.order w.len
    h = range-of w.order w.len t

    go : (l : List ℕ) → Is w.len w.order w.order l → counted l ≡ Ok (multiplicity l)
    go [] i = absurd (omega (arith, i.long, h.0))
    go (a ∷ l) i = counted-by (a ∷ l) true (omega (arith, i.sums, h.2)) (down-list i.down)

-- what remains after the first is handed out
pub moved-remains : (w : CompositionIter) (l : List ℕ) (ls : List (List ℕ)) → remaining w ≡ l ∷ ls → remaining (moved w ls) ≡ ls
unfolding remaining
moved-remains w l [] e = refl
moved-remains w l (y ∷ r) e =
    let n = next-is w.len w.order w.order l y r (holds w l (y ∷ r) e).2 in
    let f = ap (λ x. from x (lists w.order w.len)) (sym n.1) ∙ n.2 in
    ap (λ x. from x (lists w.order w.len))
    (take_at y (drop w.len w.current) w.len (from_is w.len w.order w.order y y r f).long) ∙ f

-- a step hands out the first of the lists that remain, and leaves the others
pub stepped-first : (w : CompositionIter) (l : List ℕ) (ls : List (List ℕ)) → tested w.order w.len ≡ Ok tt → remaining w ≡ l ∷ ls →
    stepped w ≡ record { item = Ok (Some (padded l)); walk = moved w ls }
stepped-first w l ls e f = stepped-range w e ∙ ap (λ b. cond b (at_end w) (handed w (remaining w))) (holds w l ls f).0 ∙ ap (handed w) f

pub stepped-end : (w : CompositionIter) → tested w.order w.len ≡ Ok tt → w.end ≡ true → stepped w ≡ at_end w
stepped-end w e f = stepped-range w e ∙ ap (λ b. cond b (at_end w) (handed w (remaining w))) f

pub stepped-none : (w : CompositionIter) → tested w.order w.len ≡ Ok tt → w.end ≡ false →
    from (take w.len w.current) (lists w.order w.len) ≡ [] → stepped w ≡ refused NoPartList w
unfolding remaining
stepped-none w e f g =
    stepped-range w e
    ∙ ap (λ b. cond b (at_end w) (handed w (cond b [] (from (take w.len w.current) (lists w.order w.len))))) f
    ∙ ap (handed w) g

pub stepped-out : (w : CompositionIter) (r : Refusal) → tested w.order w.len ≡ Err r → stepped w ≡ refused r w
unfolding stepped
stepped-out w r e = ap (stepped_by w) e

-- the same by the test for a next list
module _ (w : CompositionIter) (e : tested w.order w.len ≡ Ok tt) (f : w.end ≡ false) (l : List ℕ) (t : take w.len w.current ≡ l)
    (r : List (List ℕ)) (g : from l (lists w.order w.len) ≡ l ∷ r) where
  remains : remaining w ≡ l ∷ r
  unfolding remaining
  remains =
      ap (λ b. cond b [] (from (take w.len w.current) (lists w.order w.len))) f ∙ ap (λ x. from x (lists w.order w.len)) t ∙ g

  pub stepped-next : has_next l ≡ true →
      stepped w ≡ record {
        item = Ok (Some (padded l));
        walk = record { order = w.order; len = w.len; current = next_of l ++ drop w.len w.current; end = false };
      }
  stepped-next =
      by_next w.len w.order w.order l r
      (λ b ls. remaining w ≡ l ∷ ls → b ≡ true → stepped w ≡ record {
        item = Ok (Some (padded l));
        walk = record { order = w.order; len = w.len; current = next_of l ++ drop w.len w.current; end = false };
      })
      g (λ _ _ _ h. absurd (true≢false (sym h))) (λ s _ _ _ i _. stepped-first w l (next_of l ∷ s) e i) remains

  pub stepped-last : has_next l ≡ false →
      stepped w ≡ record {
        item = Ok (Some (padded l));
        walk = record { order = w.order; len = w.len; current = w.current; end = true };
      }
  stepped-last =
      by_next w.len w.order w.order l r
      (λ b ls. remaining w ≡ l ∷ ls → b ≡ false → stepped w ≡ record {
        item = Ok (Some (padded l));
        walk = record { order = w.order; len = w.len; current = w.current; end = true };
      })
      g (λ _ _ i _. stepped-first w l [] e i) (λ s _ _ _ _ h. absurd (true≢false h)) remains

-- ---- what a step's answer says
abbrev pub Item : Type 0
Item = Result (Option (List ℕ)) Refusal

abbrev pub answer : List ℕ → Item
answer l = Ok (Some (padded l))

data Says (w : CompositionIter) : Stepped → Type 0 where
  none : (r : Refusal) → Says w (refused r w)
  over : remaining w ≡ [] → Says w (at_end w)
  gives : {l : List ℕ} {ls : List (List ℕ)} → tested w.order w.len ≡ Ok tt → remaining w ≡ l ∷ ls →
      Says w (record { item = Ok (Some (padded l)); walk = moved w ls })

says : (w : CompositionIter) → Says w (stepped w)
unfolding stepped remaining
says w = by (tested w.order w.len) refl
  where
    one : (b : Bool) (xs rs : List (List ℕ)) → tested w.order w.len ≡ Ok tt → cond b [] xs ≡ rs → remaining w ≡ rs → Says w (cond b (at_end w) (handed w rs))
    one true xs rs t e f = over (f ∙ sym e)
    one false xs [] t e f = none NoPartList
    one false xs (l ∷ ls) t e f = gives t f

    by : (t : Result (Unit {0}) Refusal) → tested w.order w.len ≡ t → Says w (stepped_by w t)
    by (Ok u) t = one w.end (from (take w.len w.current) (lists w.order w.len)) (remaining w) t refl refl
    by (Err r) t = none r

-- a list that is handed out is the first of those that remained, and the others are left
pub record Gives (w : CompositionIter) (p : List ℕ) (after : CompositionIter) (l : List ℕ) (ls : List (List ℕ)) : Type 0 where
  pub range : tested w.order w.len ≡ Ok tt
  pub first : remaining w ≡ l ∷ ls
  pub parts : padded l ≡ p
  pub others : remaining after ≡ ls

pub step_gives : (w : CompositionIter) (p : List ℕ) → (stepped w).item ≡ Ok (Some p) →
    (l : List ℕ) × (ls : List (List ℕ)) × Gives w p (stepped w).walk l ls
step_gives w p = read (says w)
  where
    read : {s : Stepped} → Says w s → s.item ≡ Ok (Some p) → (l : List ℕ) × (ls : List (List ℕ)) × Gives w p s.walk l ls
    read (none r) e = cc
    read (over r) e = cc
    read (gives {l = l} {ls = ls} t r) e = (l, ls, record { range = t; first = r; parts = cc; others = moved-remains w l ls r })

pub step-ends : (w : CompositionIter) → (stepped w).item ≡ Ok None → remaining w ≡ []
step-ends w = read (says w)
  where
    read : {s : Stepped} → Says w s → s.item ≡ Ok None → remaining w ≡ []
    read (none r) e = cc
    read (over r) e = r
    read (gives t r) e = cc

-- a step that hands out no list leaves the record as it is
pub step-stays : (w : CompositionIter) → ((p : List ℕ) → (stepped w).item ≡ Ok (Some p) → ⊥) → (stepped w).walk ≡ w
step-stays w = read (says w)
  where
    read : {s : Stepped} → Says w s → ((p : List ℕ) → s.item ≡ Ok (Some p) → ⊥) → s.walk ≡ w
    read (none r) h = refl
    read (over r) h = refl
    read (gives {l = l} t r) h = absurd (h (padded l) refl)

-- ---- the walk from its start to its end
-- after the start all lists remain
pub started-remains : (order len : ℕ) → tested order len ≡ Ok tt → remaining (first_walk order len) ≡ lists order len
unfolding remaining
started-remains order len e =
    let h = range-of order len e in
    let f = first len order order h.1 (least-times order len h.0) in
    ap (λ x. from x (lists order len)) (take_at (greatest len order order) (replicate (20 - length (greatest len order order)) 0) len (greatest-length len order order))
    ∙ ap (from (greatest len order order)) f.1
    ∙ from-here (greatest len order order) f.0
    ∙ sym f.1

-- and there are some
pub some-list : (order len : ℕ) → tested order len ≡ Ok tt → ¬ (lists order len ≡ [])
some-list order len e f =
    let h = range-of order len e in
    nil≢cons (sym f ∙ (first len order order h.1 (least-times order len h.0)).1)

-- the walk after n steps, and what these hand out
unfoldable pub walked : ℕ → CompositionIter → CompositionIter
walked zero w = w
walked (suc n) w = walked n (stepped w).walk

unfoldable pub items : ℕ → CompositionIter → List Item
items zero w = []
items (suc n) w = (stepped w).item ∷ items n (stepped w).walk

pub moved-range : (w : CompositionIter) (ls : List (List ℕ)) → tested w.order w.len ≡ Ok tt → tested (moved w ls).order (moved w ls).len ≡ Ok tt
moved-range w [] e = e
moved-range w (l ∷ ls) e = e

pub moved-end : (w : CompositionIter) (ls : List (List ℕ)) → ls ≡ [] → (moved w ls).end ≡ true
moved-end w [] e = refl
moved-end w (l ∷ ls) e = absurd (nil≢cons (sym e))

whole : (w : CompositionIter) (ls : List (List ℕ)) → tested w.order w.len ≡ Ok tt → remaining w ≡ ls → (ls ≡ [] → w.end ≡ true) →
    (items (length ls) w ≡ map answer ls) × (stepped (walked (length ls) w) ≡ at_end (walked (length ls) w))
unfolding walked items
whole w [] e f g = (refl, stepped-end w e (g refl))
whole w (l ∷ ls) e f g =
    let s = stepped-first w l ls e f in
    let i = whole (moved w ls) ls (moved-range w ls e) (moved-remains w l ls f) (moved-end w ls) in (
      ap (λ x. x.item ∷ items (length ls) x.walk) s ∙ ap (λ x. answer l ∷ x) i.0,
      subst (λ x. stepped (walked (length ls) x.walk) ≡ at_end (walked (length ls) x.walk)) (sym s) i.1,
    )

each : (i : ℕ) (w : CompositionIter) (ls : List (List ℕ)) → tested w.order w.len ≡ Ok tt → remaining w ≡ ls → i < length ls →
    (stepped (walked i w)).item ≡ answer (get_or ls i [])
unfolding walked
each i w [] e f h = absurd (omega arith)
each zero w (l ∷ ls) e f h = ap (λ x. x.item) (stepped-first w l ls e f)
each (suc i) w (l ∷ ls) e f h =
    ap (λ x. (stepped (walked i x.walk)).item) (stepped-first w l ls e f)
    ∙ each i (moved w ls) ls (moved-range w ls e) (moved-remains w l ls f) (omega arith)

-- a walk that a start hands out, which is so for 1 ≤ len ≤ order ≤ 20 (`in-range`, `started-is`): its steps hand out the lists in their order, each
-- once, and the step after them says that the walk has ended
module _ (order len : ℕ) (w : CompositionIter) (e : started order len ≡ Ok w) where
  pub is-first : w ≡ first_walk order len
  is-first = let f = sym e ∙ started-is order len (started-range order len w e) in cc

  pub walk-range : tested w.order w.len ≡ Ok tt
  walk-range = ap (λ v. tested v.order v.len) is-first ∙ started-range order len w e

  pub all-remain : remaining w ≡ lists order len
  all-remain = ap remaining is-first ∙ started-remains order len (started-range order len w e)

  through : (items (length (lists order len)) w ≡ map answer (lists order len))
      × (stepped (walked (length (lists order len)) w) ≡ at_end (walked (length (lists order len)) w))
  through = whole w (lists order len) walk-range all-remain (λ z. absurd (some-list order len (started-range order len w e) z))

  pub walk-gives : items (length (lists order len)) w ≡ map answer (lists order len)
  walk-gives = through.0

  pub walk_ends : (stepped (walked (length (lists order len)) w)).item ≡ Ok None
  walk_ends = ap (λ s. s.item) through.1

  -- the step after i steps hands out list i
  pub walk_at : (i : ℕ) → i < length (lists order len) → (stepped (walked i w)).item ≡ answer (get_or (lists order len) i [])
  walk_at i h = each i w (lists order len) walk-range all-remain h
