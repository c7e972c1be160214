-- The inputs of the two roads: what an answered first road says of the orders, and what carrying every input answers. Assumes nothing.
use Rattle.std.proofs.Common.{Bool, true, false, cond, ◌||◌, List, [], ◌∷◌, map, ◌≡◌, ℕ, zero, suc, ◌≤◌, ◌<◌, min, ltb, eqb, length, get_or, Result, Ok, Err, refl, sym, ap, ap₂, ◌∙◌, le_refl, not-suc-le-zero, arith, ltb-false, le-ltb}
use native.Mathlib.Nat.{min-le_left, min-le_right, min-eq_left, le-min}
use borrow.Author.Tests.{eqb-false}
use Rattle.refusals.specs.declared.Refusal.{Refusal}
use Rattle.refusals.specs.declared.Refusal.TheVariants.{OutOfRange}
use Rattle.refusals.specs.Number.{number_of}
use Rattle.whole.specs.Checked.{in_range}
use Rattle.whole.specs.History.{numbers, every}
use Rattle.whole.proofs.History.{both_true}
use Rattle.whole.proofs.Range.{never}
use Rattle.exact.specs.declared.CurveDerivatives.{CurveDerivatives}
use Rattle.exact.specs.declared.SurfaceDerivatives.{SurfaceDerivatives}
use Rattle.exact.specs.declared.ParameterCurve.{ParameterCurve}
use Rattle.calculus.specs.JetKind.{tested, above20}
use Rattle.calculus.proofs.Tested.{split-first, split-second}
use Rattle.exact.specs.Composite.{along_curve}
use Rattle.roads.specs.declared.Step.{Step}
use Rattle.roads.specs.Recipe.{and_then, names_earlier, well_formed}
use Rattle.calculus.specs.Orders.{some_above20, smallest}
use Rattle.roads.specs.Roads.{every_answer}
use Rattle.exact.specs.Answer.{surfaces, curves}
use Rattle.roads.specs.Formed.{formed_by, carried_with, carries_take}
use Rattle.roads.proofs.Answers.{no_answer}
use Rattle.roads.proofs.Meeting.{along_jet, along-within}
use Rattle.roads.proofs.Induction.{every_two}

-- ---- tests that end in a refusal
pub then-false : (t u : Bool) → cond t false u ≡ true → (t ≡ false) × (u ≡ true)
then-false true u e = never e
then-false false u e = (refl, e)

pub then-true : (t u : Bool) → cond t true u ≡ false → (t ≡ false) × (u ≡ false)
then-true true u e = never (sym e)
then-true false u e = (refl, e)

pub record Counts (inputs count : ℕ) (steps : List Step) : Type 0 where
  pub some : 0 < inputs
  pub four : inputs ≤ 4
  pub twelve : count ≤ 12
  pub names : names_earlier inputs steps ≡ true

pub counts : (inputs count : ℕ) (steps : List Step) → well_formed inputs count steps ≡ true → Counts inputs count steps
counts inputs count steps e =
    let a = then-false (eqb inputs 0) _ e in
    let b = then-false (ltb 4 inputs) _ a.1 in
    let d = then-false (eqb count 0) _ b.1 in
    let f = then-false (ltb 12 count) _ d.1 in
    record { some = positive inputs (eqb-false inputs 0 a.0); four = ltb-false 4 inputs b.0; twelve = ltb-false 12 count f.0; names = f.1 }
  where
    positive : (x : ℕ) → ¬ (x ≡ 0) → 0 < x
    positive zero h = absurd (h refl)
    positive (suc x) h = omega arith

-- an answered carry: the orders of the surface, of the curve, and the one asked
pub record Within (s c n : ℕ) : Type 0 where
  pub curve : c ≤ 20
  pub surface : n ≤ s
  pub reach : n ≤ c

pub within : {B : Type 0} (a : Result B Refusal) (s c n : ℕ) {b : B} → tested Err (above20 s c || ltb 20 n) (ltb (min s c) n) true a ≡ Ok b → Within s c n
within {B} a s c n {b} =
    by (above20 s c || ltb 20 n) (ltb (min s c) n) (λ e. ltb-false 20 c (split-second (ltb 20 s) (ltb 20 c) (split-first (above20 s c) (ltb 20 n) e))) (ltb-false (min s c) n)
  where
    by : (t u : Bool) → (t ≡ false → c ≤ 20) → (u ≡ false → n ≤ min s c) → tested {B = Result B Refusal} Err t u true a ≡ Ok b → Within s c n
    by true u f g e = no_answer e
    by false true f g e = no_answer e
    by false false f g e =
        let h = g refl in
        record { curve = f refl; surface = omega (arith, h); reach = omega (arith, h) }

-- ---- lists
pub at_map : {X Y : Type 0} (f : X → Y) (l : List X) (i : ℕ) (d : X) (e : Y) → i < length l → get_or (map f l) i e ≡ f (get_or l i d)
at_map f [] i d e h = absurd (not-suc-le-zero h)
at_map f (x ∷ l) zero d e h = refl
at_map f (x ∷ l) (suc i) d e h = at_map f l i d e (omega arith)

-- the smallest order is at most 20
pub smallest-20 : (l : List ℕ) → smallest l ≤ 20
unfolding smallest
smallest-20 [] = le_refl 20
smallest-20 (n ∷ l) = omega (arith, min-le_right n (smallest l), smallest-20 l)

-- ---- along the curve c, up to the order n: every input
module _ (c : ParameterCurve) (k n : ℕ) (hc : c.order ≤ 20) (lc : n ≤ c.order) where
  abbrev along : SurfaceDerivatives → Result CurveDerivatives Refusal
  along s = along_curve s c n

  -- the jets of the integers, or the refusal where a number formed is out of range
  pub inputs-carried : (l : List SurfaceDerivatives) → some_above20 (map surfaces.order l) ≡ false → n ≤ smallest (map surfaces.order l) →
      every_answer (map along l) ≡ cond (every in_range (numbers (carries_take c n l))) (Ok (map (along_jet c k n) l)) (Err OutOfRange)
  unfolding every_answer carries_take some_above20 smallest numbers every
  inputs-carried [] h b = refl
  inputs-carried (s ∷ l) h b =
      let low = then-true (ltb 20 s.order) _ h in
      ap₂ (λ (a : Result CurveDerivatives Refusal) (r : Result (List CurveDerivatives) Refusal). and_then a (λ j. and_then r (λ js. Ok (j ∷ js))))
      (along-within c k n s (ltb-false 20 s.order low.0) hc (omega (arith, b, min-le_left s.order (smallest (map surfaces.order l)))) lc)
      (inputs-carried l low.1 (omega (arith, b, min-le_right s.order (smallest (map surfaces.order l)))))
      ∙ by (every in_range (numbers (formed_by (carried_with c s) n))) (every in_range (numbers (carries_take c n l)))
      ∙ ap (λ (t : Bool). cond t (Ok (map (along_jet c k n) (s ∷ l))) (Err OutOfRange)) (sym (every_two (formed_by (carried_with c s) n) (carries_take c n l)))
    where
      by : (t u : Bool) → ◌≡◌ {A = Result (List CurveDerivatives) Refusal}
          (and_then (cond t (Ok (along_jet c k n s)) (Err OutOfRange)) (λ j. and_then (cond u (Ok (map (along_jet c k n) l)) (Err OutOfRange)) (λ js. Ok (j ∷ js))))
          (cond (cond t u false) (Ok (map (along_jet c k n) (s ∷ l))) (Err OutOfRange))
      by true true = refl
      by true false = refl
      by false u = refl

  -- the first refusal's number is 9, where a number formed is out of range
  pub inputs-refusal : (l : List SurfaceDerivatives) → some_above20 (map surfaces.order l) ≡ false → n ≤ smallest (map surfaces.order l) →
      number_of (every_answer (map along l)) ≡ cond (every in_range (numbers (carries_take c n l))) 0 9
  inputs-refusal l h b = ap (λ (a : Result (List CurveDerivatives) Refusal). number_of a) (inputs-carried l h b) ∙ by (every in_range (numbers (carries_take c n l)))
    where
      by : (t : Bool) → number_of {A = List CurveDerivatives} (cond t (Ok (map (along_jet c k n) l)) (Err OutOfRange)) ≡ cond t 0 9
      by true = refl
      by false = refl

  -- and where none is, each call answers, and the jets are those of the integers
  pub inputs-jets : (l : List SurfaceDerivatives) → some_above20 (map surfaces.order l) ≡ false → n ≤ smallest (map surfaces.order l) → every in_range (numbers (carries_take c n l)) ≡ true →
      map along l ≡ map (λ s. Ok (along_jet c k n s)) l
  unfolding carries_take some_above20 smallest
  inputs-jets [] h b e = refl
  inputs-jets (s ∷ l) h b e =
      let low = then-true (ltb 20 s.order) _ h in
      let t = both_true (every in_range (numbers (formed_by (carried_with c s) n))) (every in_range (numbers (carries_take c n l))) (sym (every_two (formed_by (carried_with c s) n) (carries_take c n l)) ∙ e) in
      ap₂ (λ (a : Result CurveDerivatives Refusal) (r : List (Result CurveDerivatives Refusal)). a ∷ r)
      (along-within c k n s (ltb-false 20 s.order low.0) hc (omega (arith, b, min-le_left s.order (smallest (map surfaces.order l)))) lc
      ∙ ap (λ (x : Bool). cond {A = Result CurveDerivatives Refusal} x (Ok (along_jet c k n s)) (Err OutOfRange)) t.0)
      (inputs-jets l low.1 (omega (arith, b, min-le_right s.order (smallest (map surfaces.order l)))) t.1)

  -- the carried jets have the order n
  module _ (small : n ≤ 20) where
    pub jets-above : (l : List SurfaceDerivatives) → some_above20 (map curves.order (map (along_jet c k n) l)) ≡ false
    unfolding some_above20
    jets-above [] = refl
    jets-above (s ∷ l) = ap (λ (t : Bool). cond t true (some_above20 (map curves.order (map (along_jet c k n) l)))) (le-ltb 20 n small) ∙ jets-above l

    reach-jets : (l : List SurfaceDerivatives) → n ≤ smallest (map curves.order (map (along_jet c k n) l))
    unfolding smallest
    reach-jets [] = small
    reach-jets (s ∷ l) = le-min (le_refl n) (reach-jets l)

    pub jets-smallest : (l : List SurfaceDerivatives) → 0 < length l → smallest (map curves.order (map (along_jet c k n) l)) ≡ n
    unfolding smallest
    jets-smallest [] h = absurd (not-suc-le-zero h)
    jets-smallest (s ∷ l) h = min-eq_left (reach-jets l)
