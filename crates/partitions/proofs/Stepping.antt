-- What the code of a start and of a step finds, by the walk's definition. Assumes nothing.
use Rattle.std.proofs.Common.{◌≡◌, refl, sym, ap, ap₂, ◌∙◌, Bool, true, false, not, List, ◌∷◌, ◌++◌, ℕ, ◌-◌, ◌≤◌, arith, ltb, le-ltb, length, take, drop, replicate, take-append-drop, length-take-le, cond, Option, Some, None, Ok, Err}
use Rattle.std.proofs.lemmas.List.{drop-replicate}
use Rattle.refusals.specs.declared.Refusal.{Refusal}
use Rattle.refusals.specs.declared.Refusal.TheVariants.{NoPartList}
use Rattle.partitions.specs.Parts.{total, lists}
use Rattle.partitions.specs.Count.{falls}
use Rattle.partitions.specs.Inner.{greatest, has_next, next_of, held, moved_on}
use Rattle.partitions.specs.Walk.{from, padded, tested, started, started_by, stepped}
use Rattle.partitions.specs.declared.CompositionIter.{CompositionIter}
use Rattle.partitions.proofs.Slices.{sum_is}
use Rattle.partitions.proofs.Member.{listed, unlisted-falls, unlisted-total, down-falls, from_is}
use Rattle.partitions.proofs.Successor.{greatest-length, next-same}
use Rattle.partitions.proofs.Moves.{falls-wider}
use Rattle.partitions.proofs.Walked.{range-of, InRange, started-is, stepped-out, stepped-end, stepped-none, stepped-next, stepped-last, step_gives, step-stays, holds, Item}

abbrev pub zeros : List ℕ
zeros = replicate 20 0

pub in-20 : (order len : ℕ) → tested order len ≡ Ok tt → len ≤ 20
in-20 order len e =
    let h = range-of order len e in
    let a : len ≤ order = h.1 in
    let b : order ≤ 20 = h.2 in
    omega arith

-- ---- the start
pub start-refused : (order len : ℕ) (r : Refusal) → tested order len ≡ Err r → Err r ≡ started order len
unfolding started
start-refused order len r e = sym (ap (started_by order len) e)

pub start_first : (order len : ℕ) (first : List ℕ) → tested order len ≡ Ok tt → first ≡ greatest (length (take len zeros)) order order →
    Ok (record { order = order; len = len; current = first ++ drop len zeros; end = false }) ≡ started order len
start_first order len first e f =
    let long : length (take len zeros) ≡ len = length-take-le len zeros (in-20 order len e) in
    let is : first ≡ greatest len order order = f ∙ ap (λ (k : ℕ). greatest k order order) long in
    ap (λ (l : List ℕ). Ok (record { order = order; len = len; current = l; end = false }))
    (ap₂ ◌++◌ is (drop-replicate len 20 0) ∙ ap (λ (k : ℕ). greatest len order order ++ replicate (20 - k) 0) (sym (greatest-length len order order)))
    ∙ sym (started-is order len e)

-- ---- a step
-- the record holds a list of its walk
pub record Holds (w : CompositionIter) : Type 0 where
  pub none : tested w.order w.len ≡ Ok tt
  pub going : w.end ≡ false
  pub sums : total (held w) ≡ w.order
  pub down : falls w.order (held w) ≡ true
  pub long : length (held w) ≡ w.len

pub item-refused : (w : CompositionIter) (r : Refusal) → tested w.order w.len ≡ Err r → Err r ≡ (stepped w).item
item-refused w r e = sym (ap (λ s. s.item) (stepped-out w r e))

pub item-ended : (w : CompositionIter) → tested w.order w.len ≡ Ok tt → w.end ≡ true → Ok None ≡ (stepped w).item
item-ended w e h = sym (ap (λ s. s.item) (stepped-end w e h))

-- a walk that has lists and has not ended, of which the code has the sum s
module _ (w : CompositionIter) (e : tested w.order w.len ≡ Ok tt) (g : w.end ≡ false) (s : Option ℕ)
    (q : s ≡ cond (ltb 20 (total (held w))) None (Some (total (held w)))) where
  range : InRange w.order w.len
  range = range-of w.order w.len e

  -- where the parts do not have the sum of the walk, and where they are no part list
  pub item_sum : ¬ (s ≡ Some w.order) → Err NoPartList ≡ (stepped w).item
  item_sum h =
      let o : w.order ≤ 20 = range.2 in
      sym (ap (λ s. s.item) (stepped-none w e g (unlisted-total w.order w.len (held w) (λ t. h (q ∙ simp (t, le-ltb 20 w.order o))))))

  pub item_falls : falls w.order (held w) ≡ false → Err NoPartList ≡ (stepped w).item
  item_falls h = sym (ap (λ s. s.item) (stepped-none w e g (unlisted-falls w.order w.len (held w) h)))

  -- else it holds a list
  pub item-holds : length w.current ≡ 20 → s ≡ Some w.order → falls w.order (held w) ≡ true → Holds w
  item-holds l t f =
      let o : w.order ≤ 20 = range.2 in
      let a : w.len ≤ w.order = range.1 in
      record { none = e; going = g; sums = (sum_is (total (held w)) q w.order t).0; down = f; long = length-take-le w.len w.current (omega (arith, l)) }

module _ {w : CompositionIter} (r : Holds w) where
  pub next-asks : (w.len ≤ 20) × (falls 20 (held w) ≡ true) × (total (held w) ≤ 20)
  next-asks =
      let h = range-of w.order w.len r.none in
      let o : w.order ≤ 20 = h.2 in
      (in-20 w.order w.len r.none, falls-wider w.order 20 (held w) o r.down, omega (arith, r.sums))

  listed-here : (rs : List (List ℕ)) × (from (held w) (lists w.order w.len) ≡ held w ∷ rs)
  listed-here = listed w.order w.len (held w) r.long r.down r.sums

  pub step-moves : stepped w ≡ record { item = Ok (Some (padded (held w))); walk = moved_on w }
  step-moves = by (has_next (held w)) refl
    where
      by : (b : Bool) → has_next (held w) ≡ b → stepped w ≡ record { item = Ok (Some (padded (held w))); walk = moved_on w }
      by true h =
          stepped-next w r.none r.going (held w) refl listed-here.0 listed-here.1 h
          ∙ ap (λ (b : Bool). record { item = Ok (Some (padded (held w))); walk = record { order = w.order; len = w.len; current = next_of (held w) ++ drop w.len w.current; end = not b } }) (sym h)
      by false h =
          stepped-last w r.none r.going (held w) refl listed-here.0 listed-here.1 h
          ∙ ap₂ (λ (l : List ℕ) (b : Bool). record { item = Ok (Some (padded (held w))); walk = record { order = w.order; len = w.len; current = l; end = not b } })
          (sym (ap (λ (l : List ℕ). l ++ drop w.len w.current) (next-same (held w) h) ∙ take-append-drop w.len w.current)) (sym h)

-- a list that is handed out is one of those of its walk
pub handed-holds : (w : CompositionIter) (p : List ℕ) → (stepped w).item ≡ Ok (Some p) → Holds w
handed-holds w p e =
    let g = step_gives w p e in
    let h = holds w g.0 g.1 g.2.first in
    let is = from_is w.len w.order w.order g.0 g.0 g.1 h.2 in
    let same : g.0 ≡ held w = sym h.1 in
    record {
      none = g.2.range;
      going = h.0;
      sums = ap total (sym same) ∙ is.sums;
      down = ap (falls w.order) (sym same) ∙ down-falls is.down;
      long = ap length (sym same) ∙ is.long;
    }

-- the answer of a step: the record moved on where a list is handed out, and else as it is
module _ (w : CompositionIter) {i : Item} where
  pub step-moved : (p : List ℕ) {v : CompositionIter} → i ≡ (stepped w).item → i ≡ Ok (Some p) → v ≡ moved_on w → record { item = i; walk = v } ≡ stepped w
  step-moved p e f g = ap₂ (λ i v. record { item = i; walk = v }) e (g ∙ sym (ap (λ s. s.walk) (step-moves (handed-holds w p (sym e ∙ f)))))

  pub step-same : i ≡ (stepped w).item → ((p : List ℕ) → i ≡ Ok (Some p) → ⊥) → record { item = i; walk = w } ≡ stepped w
  step-same e h = ap₂ (λ i v. record { item = i; walk = v }) e (sym (step-stays w (λ p f. h p (e ∙ f))))
