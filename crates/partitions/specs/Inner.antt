-- How the code finds the greatest list and the list after a list: what the private functions compute. That these are the first and the next of
-- the lists is proved (proofs/Successor.antt). Assumes nothing.
use Rattle.std.specs.Prelude.{Bool, true, false, cond, not, List, [], ◌∷◌, ◌++◌, ℕ, zero, suc, ◌+◌, ◌-◌, ◌*◌, min, leb, length, take, drop}
use Rattle.partitions.specs.Parts.{total}
use Rattle.partitions.specs.declared.CompositionIter.{CompositionIter}

-- the greatest list of k parts with the sum n, each at most m
unfoldable pub greatest : ℕ → ℕ → ℕ → List ℕ
greatest zero n m = []
greatest (suc k) n m = min (n - k) m ∷ greatest k (n - min (n - k) m) (min (n - k) m)

-- is there a list of k parts from 1 to m with the sum n
abbrev pub can_init : ℕ → ℕ → ℕ → Bool
can_init k n m = cond (leb k n) (leb n (m * k)) false

-- is there a list after this one, and which; the list itself where there is none
unfoldable pub has_next : List ℕ → Bool
has_next [] = false
has_next (a ∷ t) = cond (has_next t) true (can_init (length t) (total t + 1) (a - 1))

unfoldable pub next_of : List ℕ → List ℕ
next_of [] = []
next_of (a ∷ t) =
    cond (has_next t) (a ∷ next_of t)
    (cond (can_init (length t) (total t + 1) (a - 1)) ((a - 1) ∷ greatest (length t) (total t + 1) (a - 1)) (a ∷ t))

-- the parts that a record holds, and the record moved on from them
abbrev pub held : CompositionIter → List ℕ
held w = take w.len w.current

abbrev pub moved_on : CompositionIter → CompositionIter
moved_on w = record { order = w.order; len = w.len; current = next_of (held w) ++ drop w.len w.current; end = not (has_next (held w)) }
