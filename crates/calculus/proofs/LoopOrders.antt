-- The orders of several jets, one at a time: whether one is above 20, and the smallest. Assumes nothing.
use Rattle.std.proofs.Common.{◌≡◌, sym, ap, ◌∙◌, Bool, true, false, cond, List, [], ◌∷◌, ℕ, ◌+◌, ◌≤◌, ◌<◌, min, add-one, arith, ltb, length, get_or, drop, drop_of_length-le, drop-cons, lt-ltb, le-ltb}
use Rattle.calculus.specs.Orders.{some_above20, smallest}

-- ---- the orders from i on
module _ (l : List ℕ) (i : ℕ) (h : i < length l) where
  above_at : some_above20 (drop i l) ≡ cond (ltb 20 (get_or l i 0)) true (some_above20 (drop (i + 1) l))
  unfolding some_above20
  above_at = ap some_above20 (drop-cons l i 0 h) ∙ ap (λ (k : ℕ). cond (ltb 20 (get_or l i 0)) true (some_above20 (drop k l))) (sym (add-one i))

  pub above-here : 20 < get_or l i 0 → some_above20 (drop i l) ≡ true
  above-here b = above_at ∙ ap (λ (t : Bool). cond t true (some_above20 (drop (i + 1) l))) (lt-ltb 20 (get_or l i 0) b)

  pub above-later : get_or l i 0 ≤ 20 → some_above20 (drop i l) ≡ some_above20 (drop (i + 1) l)
  above-later b = above_at ∙ ap (λ (t : Bool). cond t true (some_above20 (drop (i + 1) l))) (le-ltb 20 (get_or l i 0) b)

  pub smallest-at : smallest (drop i l) ≡ min (get_or l i 0) (smallest (drop (i + 1) l))
  unfolding smallest
  smallest-at = ap smallest (drop-cons l i 0 h) ∙ ap (λ (k : ℕ). min (get_or l i 0) (smallest (drop k l))) (sym (add-one i))

pub above-none : (l : List ℕ) (i : ℕ) → length l ≤ i → some_above20 (drop i l) ≡ false
unfolding some_above20
above-none l i h = ap some_above20 (drop_of_length-le l h)

pub smallest-none : (l : List ℕ) (i : ℕ) → length l ≤ i → smallest (drop i l) ≡ 20
unfolding smallest
smallest-none l i h = ap smallest (drop_of_length-le l h)

-- none is above 20
pub smallest_up_to_20 : (l : List ℕ) → smallest l ≤ 20
unfolding smallest
smallest_up_to_20 [] = omega arith
smallest_up_to_20 (n ∷ l) = omega (arith, smallest_up_to_20 l)
