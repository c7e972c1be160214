-- The loops of a recipe's lists. Assumes nothing.
use Rattle.std.proofs.Common.{Option, Some, None, Result, Ok, Err, ok_or, ◌≡◌, ap, sym, ◌∙◌, false, List, [], ◌∷◌, ◌++◌, ℕ, zero, suc, ◌+◌, ◌-◌, ◌*◌, ◌/◌, ◌≤◌, ◌<◌, min, not-suc-le-zero, le_of_suc-le-suc, add-one, arith, ltb, length, get_or, take, drop, length-append, length-drop, drop-drop, ne_eqb, ltb-false}
use Rattle.std.specs.Option.{SomeIff}
use Rattle.std.specs.Result.{result_unwrap_or}
use Rattle.refusals.specs.declared.Refusal.{Refusal}
use Rattle.refusals.specs.declared.Refusal.TheVariants.{Shape}
use Rattle.roads.proofs.Answers.{same-answer, no_answer}
use Rattle.std.proofs.lemmas.List.{get_or_append_left, get_or-drop}
use Rattle.std.proofs.Math.Seq.{drop-append_seam}
use native.Mathlib.Decide.{dec_lt}
use Rattle.calculus.specs.Array.{filled}
use Rattle.calculus.specs.Orders.{some_above20}
use Rattle.calculus.proofs.LoopFilling.{CurveStored, stored-all}
use Rattle.roads.proofs.Inputs.{then-true}
use Rattle.given.specs.Given.{count_given}
use Rattle.capi_roads.specs.Recipes.{total, step_of, step_at, no_step}

-- ---- orders
pub below-20 : (l : List ℕ) → some_above20 l ≡ false → (i : ℕ) → i < length l → get_or l i 0 ≤ 20
unfolding some_above20
below-20 [] e i h = absurd (not-suc-le-zero h)
below-20 (x ∷ l) e zero h = ltb-false 20 x (then-true (ltb 20 x) (some_above20 l) e).0
below-20 (x ∷ l) e (suc i) h = below-20 l (then-true (ltb 20 x) (some_above20 l) e).1 i (le_of_suc-le-suc h)

-- what is counted off a rest, and a rest that is too small
pub counted-off : (o : Option ℕ) {rest k x : ℕ} {r : Result ℕ Refusal} → SomeIff o (k ≤ rest) (rest - k) → r ≡ ok_or o Shape → r ≡ Ok x → (k ≤ rest) × (x ≡ rest - k)
counted-off None h e q = no_answer (sym e ∙ q)
counted-off (Some y) h e q = (h.0, same-answer (sym q ∙ e) ∙ h.1)

pub runs-out : (o : Option ℕ) {rest k : ℕ} {c : Refusal} {r : Result ℕ Refusal} → SomeIff o (k ≤ rest) (rest - k) → r ≡ ok_or o Shape → r ≡ Err c → (rest < k) × (c ≡ Shape)
runs-out None {rest} {k} {c} h e q = (by (dec_lt rest k), ap (λ (r : Result ℕ Refusal). refusal r) (sym q ∙ e))
  where
    by : Dec (rest < k) → rest < k
    by (yes l) = l
    by (no l) = absurd (h (omega arith))

    refusal : Result ℕ Refusal → Refusal
    refusal (Err d) = d
    refusal (Ok x) = c
runs-out (Some y) h e q = no_answer (sym q ∙ e)

-- ---- the lists of the first i orders
module _ (size : ℕ → ℕ) where
  total-suc : (l : List ℕ) (i : ℕ) → i < length l → total size (take (suc i) l) ≡ total size (take i l) + size (get_or l i 0)
  unfolding total
  total-suc [] i h = absurd (not-suc-le-zero h)
  total-suc (x ∷ l) zero h = omega arith
  total-suc (x ∷ l) (suc i) h = omega (arith, total-suc l i (le_of_suc-le-suc h))

  pub total-more : (l : List ℕ) (i : ℕ) → i < length l → total size (take (i + 1) l) ≡ total size (take i l) + size (get_or l i 0)
  total-more l i h = ap (λ (k : ℕ). total size (take k l)) (add-one i) ∙ total-suc l i h

  pub total-le : (l : List ℕ) (i : ℕ) → total size (take i l) ≤ total size l
  unfolding total
  total-le l zero = omega arith
  total-le [] (suc i) = omega arith
  total-le (x ∷ l) (suc i) = omega (arith, total-le l i)

  -- a count that runs out, and one that does not
  pub too_few : (l : List ℕ) (i : ℕ) → i < length l → (count rest k : ℕ) → count ≡ total size (take i l) + rest → k ≡ size (get_or l i 0) → rest < k →
      2 ≡ count_given (total size l) count
  too_few l i h count rest k e q b =
      let n : ¬ (count ≡ total size l) = λ z. omega (arith, total-more l i h, total-le l (i + 1)) in
      rw (ne_eqb count (total size l) n)

  pub enough : (l : List ℕ) (i : ℕ) → i < length l → (count rest k : ℕ) → count ≡ total size (take i l) + rest → k ≡ size (get_or l i 0) → k ≤ rest →
      count ≡ total size (take (i + 1) l) + (rest - k)
  enough l i h count rest k e q b = omega (arith, total-more l i h)

pub total-none : (size : ℕ → ℕ) (l : List ℕ) (count : ℕ) → count ≡ total size (take 0 l) + count
unfolding total
total-none size l count = omega arith

pub within-entries : (size : ℕ → ℕ) (l : List ℕ) (i : ℕ) → i < length l → (at k m : ℕ) → at ≡ total size (take i l) → k ≡ size (get_or l i 0) → m ≡ total size l → at + k ≤ m
within-entries size l i h at k m e q t = omega (arith, total-more size l i h, total-le size l (i + 1))

-- a jet among the first four is given
pub among-four : (l : List ℕ) {count i : ℕ} → count ≡ min (length l) 4 → i < count → i < length l
among-four l e h = omega (arith, e)

-- an array of w places holds the first w of what is given
pub first-filled : {X : Type 0} (w : ℕ) (blank : X) (g : ℕ → X) (n : ℕ) {r : List X} {m : ℕ} → CurveStored w blank blank (λ k v. v ≡ g k) m r → m ≡ min n w →
    r ≡ filled w blank g n
first-filled w blank g n s e = stored-all w blank blank (λ k v. v ≡ g k) g (λ k v q. q) n s (λ k l h. omega (arith, e)) (λ k l h. omega (arith, e))

-- ---- three numbers that stand in front of the others past i steps
module _ (l : List ℕ) (i : ℕ) {rest : List ℕ} (three later : List ℕ) (past : rest ≡ drop (3 * i) l) (front : rest ≡ three ++ later) (size : length three ≡ 3) where
  number : (k : ℕ) → k < 3 → get_or three k 0 ≡ get_or l (3 * i + k) 0
  number k h =
      sym (get_or_append_left three later 0 k (omega (arith, h, size))) ∙ ap (λ (r : List ℕ). get_or r k 0) (sym front ∙ past) ∙ get_or-drop (3 * i) l k 0

  first-number : get_or three 0 0 ≡ get_or l (3 * i) 0
  first-number = number 0 (omega arith) ∙ ap (λ (k : ℕ). get_or l k 0) (omega arith)

  pub step-there : result_unwrap_or (step_of (get_or three 0 0) (get_or three 1 0) (get_or three 2 0)) no_step ≡ step_at l i
  unfolding step_at
  step-there = rw (first-number, number 1 (omega arith), number 2 (omega arith))

  pub past-more : later ≡ drop (3 * (i + 1)) l
  past-more =
      sym (drop-append_seam three later) ∙ ap (λ (k : ℕ). drop k (three ++ later)) size ∙ ap (drop 3) (sym front ∙ past) ∙ drop-drop 3 (3 * i) l
      ∙ ap (λ (k : ℕ). drop k l) (omega arith)

  pub more-fits : 3 * i ≤ length l → 3 * (i + 1) ≤ length l
  more-fits h = omega (arith, h, size, length-append three later, ap length front, ap length past, length-drop (3 * i) l)

-- none stand there: all steps are passed
pub all-passed : (l : List ℕ) (i n : ℕ) {rest : List ℕ} → rest ≡ drop (3 * i) l → 3 * i ≤ length l → n + i ≡ 12 → (0 < n → length rest < 3) → i ≡ min (length l / 3) 12
all-passed l i n {rest} past fits sum none = by (dec_lt 0 n)
  where
    by : Dec (0 < n) → i ≡ min (length l / 3) 12
    by (yes h) = omega (arith, none h, ap length past, length-drop (3 * i) l, fits, sum)
    by (no h) = omega (arith, h, fits, sum)
