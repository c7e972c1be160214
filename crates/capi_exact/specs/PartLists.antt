-- Walks over part lists as lists of 23 numbers. Assumes nothing.
use Rattle.std.specs.Prelude.{cond, List, ◌∷◌, ℕ, ltb, eqb, length, get_or, drop, replicate, Option, Some, None, Result, Ok, Err}
use Rattle.refusals.specs.declared.Refusal.{Refusal}
use Rattle.refusals.specs.Number.{number}
use Rattle.partitions.specs.declared.CompositionIter.{CompositionIter}
use Rattle.partitions.specs.Walk.{started, stepped}
use Rattle.given.specs.Given.{first, order_given, count_given}
use Rattle.given.specs.Lists.{admitted}

-- ---- a walk as numbers: the order, the len, 1 where it has ended and 0 else, and the 20 parts
unfoldable pub walk_numbers : CompositionIter → List ℕ
walk_numbers w = w.order ∷ w.len ∷ cond w.end 1 0 ∷ w.current

unfoldable pub walk_of : List ℕ → CompositionIter
walk_of l = record { order = get_or l 0 0; len = get_or l 1 0; current = drop 3 l; end = eqb (get_or l 2 0) 1 }

-- the start
abbrev pub begun : Result CompositionIter Refusal → List ℕ → ℕ × List ℕ
begun (Ok w) out = (0, walk_numbers w)
begun (Err c) out = (number c, out)

unfoldable pub walk_started : ℕ → ℕ → List ℕ → ℕ × List ℕ
walk_started order len out = admitted (first (order_given order) (count_given 23 (length out))) out (begun (started order len) out)

-- a number that says neither that a walk has ended nor that it has not
abbrev pub flag_given : ℕ → ℕ
flag_given n = cond (ltb 1 n) 3 0

-- of a list that is no walk nothing is read
unfoldable pub walk_given : List ℕ → ℕ
walk_given walk = cond (eqb (length walk) 23) (first (order_given (get_or walk 0 0)) (flag_given (get_or walk 2 0))) 2

-- a step: the walk moves on, and the parts are those handed out, with zeros past them, or all zero where the walk has ended
abbrev pub handed : Result (Option (List ℕ)) Refusal → CompositionIter → List ℕ × List ℕ → ℕ × (List ℕ × List ℕ)
handed (Ok (Some list)) w lent = (0, (walk_numbers w, list))
handed (Ok None) w lent = (0, (walk_numbers w, replicate 20 0))
handed (Err c) w lent = (number c, lent)

unfoldable pub walk_stepped : List ℕ → List ℕ → ℕ × (List ℕ × List ℕ)
walk_stepped walk parts =
    let s = stepped (walk_of walk) in
    admitted (first (walk_given walk) (count_given 20 (length parts))) (walk, parts) (handed s.item s.walk (walk, parts))
