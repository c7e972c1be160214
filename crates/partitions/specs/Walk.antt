-- The walk over the part lists of an order and a len, as one record: where it starts, and what a step hands out and leaves. Assumes nothing.
use Rattle.std.specs.Prelude.{Bool, true, false, cond, List, [], ◌∷◌, ◌++◌, ℕ, ◌-◌, ltb, eqb, length, take, drop, replicate, Some, None, Result, Ok, Err}
use Rattle.refusals.specs.declared.Refusal.{Refusal}
use Rattle.refusals.specs.declared.Refusal.TheVariants.{OrderAbove20, NoPartList}
use Rattle.partitions.specs.Parts.{lists}
use Rattle.partitions.specs.declared.CompositionIter.{CompositionIter}
use Rattle.partitions.specs.declared.Stepped.{Stepped}

unfoldable pub same : List ℕ → List ℕ → Bool
same [] [] = true
same [] (b ∷ r) = false
same (a ∷ l) [] = false
same (a ∷ l) (b ∷ r) = cond (eqb a b) (same l r) false

-- the lists from l on: none where l is not among them
unfoldable pub from : List ℕ → List (List ℕ) → List (List ℕ)
from l [] = []
from l (x ∷ xs) = cond (same l x) (x ∷ xs) (from l xs)

-- a list in an array of 20, with zeros after it
abbrev pub padded : List ℕ → List ℕ
padded l = l ++ replicate (20 - length l) 0

-- refused above order 20, and for a len of 0 or above the order
abbrev pub tested : ℕ → ℕ → Result (Unit {0}) Refusal
tested order len = cond (ltb 20 order) (Err OrderAbove20) (cond (eqb len 0) (Err NoPartList) (cond (ltb order len) (Err NoPartList) (Ok tt)))

-- ---- the start: the first list
abbrev pub started_at : ℕ → ℕ → List (List ℕ) → Result CompositionIter Refusal
started_at order len [] = Err NoPartList
started_at order len (l ∷ ls) = Ok (record { order = order; len = len; current = padded l; end = false })

abbrev pub started_by : ℕ → ℕ → Result (Unit {0}) Refusal → Result CompositionIter Refusal
started_by order len (Ok _) = started_at order len (lists order len)
started_by order len (Err r) = Err r

unfoldable pub started : ℕ → ℕ → Result CompositionIter Refusal
started order len = started_by order len (tested order len)

-- ---- a step: the list that the record holds is handed out, and the record holds the next, or the end after the last
abbrev pub refused : Refusal → CompositionIter → Stepped
refused r w = record { item = Err r; walk = w }

abbrev pub at_end : CompositionIter → Stepped
at_end w = record { item = Ok None; walk = w }

-- the lists that the walk has still to hand out
unfoldable pub remaining : CompositionIter → List (List ℕ)
remaining w = cond w.end [] (from (take w.len w.current) (lists w.order w.len))

abbrev pub moved : CompositionIter → List (List ℕ) → CompositionIter
moved w [] = record { order = w.order; len = w.len; current = w.current; end = true }
moved w (l ∷ ls) = record { order = w.order; len = w.len; current = l ++ drop w.len w.current; end = false }

abbrev pub handed : CompositionIter → List (List ℕ) → Stepped
handed w [] = refused NoPartList w
handed w (l ∷ ls) = record { item = Ok (Some (padded l)); walk = moved w ls }

abbrev pub stepped_by : CompositionIter → Result (Unit {0}) Refusal → Stepped
stepped_by w (Ok _) = cond w.end (at_end w) (handed w (remaining w))
stepped_by w (Err r) = refused r w

unfoldable pub stepped : CompositionIter → Stepped
stepped w = stepped_by w (tested w.order w.len)
