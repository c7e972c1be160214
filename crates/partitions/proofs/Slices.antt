-- What the functions over a slice of parts use: sums, and a test, the divisions and the runs one part further. Assumes nothing.
use Rattle.std.proofs.Common.{◌≡◌, refl, sym, ap, ◌∙◌, true, false, cond, Option, Some, None, List, [], ◌∷◌, ◌⊎◌, inl, inr, ℕ, suc, ◌+◌, ◌-◌, ◌/◌, ◌≤◌, ◌<◌, add-one, arith, eqb, ltb, length, length-drop, get_or, get_or-take, take, drop, drop_of_length-le, drop-cons, eq-eqb, ne_eqb, lt-ltb, le-ltb}
use Rattle.std.specs.List.{sum}
use Rattle.partitions.proofs.Tests.{by-leb}
use Rattle.std.proofs.lemmas.List.Sums.{sum_by_from}
use Rattle.partitions.specs.Parts.{total, fact, divide, runs_from, runs}
use Rattle.partitions.specs.Count.{falls}

pub drop_at : (l : List ℕ) (i : ℕ) → i < length l → drop i l ≡ get_or l i 0 ∷ drop (i + 1) l
drop_at l i h = rw (add-one, drop-cons l i 0)

-- the sum of the kit
pub sum-total : (l : List ℕ) → sum l ≡ total l
unfolding total
sum-total [] = refl
sum-total (a ∷ l) = omega (arith, sum_by_from (λ x. x) (0 + a) l, sum-total l)

-- the sum of the parts from a place on
pub total-at : (l : List ℕ) (i : ℕ) → i < length l → total (drop i l) ≡ get_or l i 0 + total (drop (i + 1) l)
unfolding total
total-at l i h = ap total (drop_at l i h)

pub nothing-past : (l : List ℕ) (i : ℕ) → length l ≤ i → total (drop i l) ≡ 0
unfolding total
nothing-past l i h = ap total (drop_of_length-le l h)

-- what a sum that is at most 20, or none, says
module _ {s : Option ℕ} (t : ℕ) (e : s ≡ cond (ltb 20 t) None (Some t)) where
  pub sum_is : (n : ℕ) → s ≡ Some n → (t ≡ n) × (n ≤ 20)
  sum_is n h = by-leb 21 t (λ b. cond b None (Some t) ≡ Some n → (t ≡ n) × (n ≤ 20)) (λ _ f. cc) (λ g f. let is : t ≡ n = cc in (is, omega arith)) (sym e ∙ h)

  pub sum-high : s ≡ None → 20 < t
  sum-high h = by-leb 21 t (λ b. cond b None (Some t) ≡ None → 20 < t) (λ g _. omega arith) (λ _ f. cc) (sym e ∙ h)

module _ (m : ℕ) (l : List ℕ) (i : ℕ) (h : i < length l) where
  falls_at : falls m (drop i l) ≡ cond (eqb (get_or l i 0) 0) false (cond (ltb m (get_or l i 0)) false (falls (get_or l i 0) (drop (i + 1) l)))
  unfolding falls
  falls_at = ap (falls m) (drop_at l i h)

  -- a part that is 0, or greater than the one before it
  pub falls-stops : (get_or l i 0 ≡ 0) ⊎ ((get_or l i 0 ≡ 0 → ⊥) × (m < get_or l i 0)) → falls m (drop i l) ≡ false
  falls-stops (inl e) = falls_at ∙ simp (eq-eqb (get_or l i 0) 0 e)
  falls-stops (inr g) = falls_at ∙ simp (ne_eqb (get_or l i 0) 0 g.0, lt-ltb m (get_or l i 0) g.1)

  pub falls-on : (get_or l i 0 ≡ 0 → ⊥) → get_or l i 0 ≤ m → falls m (drop i l) ≡ falls (get_or l i 0) (drop (i + 1) l)
  falls-on e g = falls_at ∙ simp (ne_eqb (get_or l i 0) 0 e, le-ltb m (get_or l i 0) g)

pub divide-at : (x : ℕ) (l : List ℕ) (i : ℕ) → i < length l → divide x (drop i l) ≡ divide (x / fact (get_or l i 0)) (drop (i + 1) l)
unfolding divide
divide-at x l i h = ap (divide x) (drop_at l i h)

-- the runs of a list, of which one part stands last
pub runs-start : (l : List ℕ) → 0 < length l → runs_from (get_or l 0 0) 1 (drop 1 l) ≡ runs l
unfolding runs
runs-start [] h = absurd (omega arith)
runs-start (a ∷ l) h = refl

-- the next part is like the one before it, of which k stand last, or not
longer : (k : ℕ) (left : List ℕ) → 2 ≤ length left → get_or left 1 0 ≡ get_or left 0 0 →
    runs_from (get_or left 0 0) k (drop 1 left) ≡ runs_from (get_or (drop 1 left) 0 0) (k + 1) (drop 1 (drop 1 left))
unfolding runs_from
longer k [] h e = absurd (omega arith)
longer k (a ∷ []) h e = absurd (omega arith)
longer k (a ∷ (b ∷ l)) h e = rw (eq-eqb b a e, add-one) (ap (λ (x : ℕ). runs_from x (suc k) l) (sym e))

over : (k : ℕ) (left : List ℕ) → 2 ≤ length left → ¬ (get_or left 1 0 ≡ get_or left 0 0) →
    runs_from (get_or left 0 0) k (drop 1 left) ≡ k ∷ runs_from (get_or (drop 1 left) 0 0) 1 (drop 1 (drop 1 left))
unfolding runs_from
over k [] h e = absurd (omega arith)
over k (a ∷ []) h e = absurd (omega arith)
over k (a ∷ (b ∷ l)) h e = rw (ne_eqb b a e) refl

-- the same of a window of two
module _ (k : ℕ) (left : List ℕ) {size : ℕ} {pair after : List ℕ} (two : size ≡ 2) (h : size ≤ length left) (p : pair ≡ take size left) (e : after ≡ drop 1 left) where
  pub one_less : length after ≡ length left - 1
  one_less = ap length e ∙ length-drop 1 left

  in-pair : (i : ℕ) → i < 2 → get_or left i 0 ≡ get_or pair i 0
  in-pair i l = sym (ap (λ (x : List ℕ). get_or x i 0) p ∙ get_or-take size left i 0 (omega arith))

  pub run-longer : get_or pair 1 0 ≡ get_or pair 0 0 → runs_from (get_or left 0 0) k (drop 1 left) ≡ runs_from (get_or after 0 0) (k + 1) (drop 1 after)
  run-longer f =
      longer k left (omega arith) (in-pair 1 (omega arith) ∙ f ∙ sym (in-pair 0 (omega arith)))
      ∙ ap (λ (x : List ℕ). runs_from (get_or x 0 0) (k + 1) (drop 1 x)) (sym e)

  pub run-over : ¬ (get_or pair 1 0 ≡ get_or pair 0 0) → runs_from (get_or left 0 0) k (drop 1 left) ≡ k ∷ runs_from (get_or after 0 0) 1 (drop 1 after)
  run-over f =
      over k left (omega arith) (λ g. f (sym (in-pair 1 (omega arith)) ∙ g ∙ in-pair 0 (omega arith)))
      ∙ ap (λ (x : List ℕ). k ∷ runs_from (get_or x 0 0) 1 (drop 1 x)) (sym e)

-- past the end
pub falls-past : (m : ℕ) (l : List ℕ) (i : ℕ) → length l ≤ i → falls m (drop i l) ≡ true
unfolding falls
falls-past m l i h = ap (falls m) (drop_of_length-le l h)

pub runs_past : (a k : ℕ) (left : List ℕ) → length left < 2 → runs_from a k (drop 1 left) ≡ k ∷ []
unfolding runs_from
runs_past a k left h = let short : length left ≤ 1 = omega arith in ap (runs_from a k) (drop_of_length-le left short)

pub divide-first : (x k : ℕ) (l : List ℕ) → divide (x / fact k) l ≡ divide x (k ∷ l)
unfolding divide
divide-first x k l = refl

pub divide-one : (x k : ℕ) → x / fact k ≡ divide x (k ∷ [])
unfolding divide
divide-one x k = refl

pub divide-past : (x : ℕ) (l : List ℕ) (i : ℕ) → length l ≤ i → divide x (drop i l) ≡ x
unfolding divide
divide-past x l i h = ap (divide x) (drop_of_length-le l h)
