-- The steps of a recipe, on the surfaces of the first road and on the curves of the second at once: one induction over the steps, over all kinds
-- of step. Assumes nothing.
use Rattle.std.proofs.Common.{Bool, true, false, cond, List, [], ◌∷◌, ◌++◌, ◌≡◌, ℕ, suc, ◌-◌, ◌<◌, ltb, eqb, ℤ, Result, Ok, Err, refl, sym, ap, ◌∙◌, ⊎_elim, eq-or-lt_of_le, le_of_suc-le-suc, arith, ltb-true, eq-eqb, ne_eqb}
use Rattle.refusals.specs.declared.Refusal.{Refusal}
use Rattle.refusals.specs.declared.Refusal.TheVariants.{OutOfRange}
use Rattle.whole.specs.Checked.{in_range}
use Rattle.whole.specs.History.{Event, numbers, every}
use Rattle.whole.proofs.History.{both_true, numbers-append, every_append}
use Rattle.whole.proofs.Range.{never}
use Rattle.exact.specs.declared.CurveDerivatives.{CurveDerivatives}
use Rattle.exact.specs.declared.SurfaceDerivatives.{SurfaceDerivatives}
use Rattle.exact.specs.declared.ParameterCurve.{ParameterCurve}
use Rattle.exact.specs.Composite.{along_curve}
use Rattle.roads.specs.declared.Step.{Step}
use Rattle.roads.specs.Recipe.{and_then, with, names_earlier, worked}
use Rattle.roads.specs.Roads.{surface_steps, curve_steps}
use Rattle.roads.specs.Formed.{formed_by, carried_with, step_with, steps_take}
use Rattle.roads.proofs.Answers.{no_answer, first-answered, then-assoc}
use Rattle.roads.proofs.Meeting.{along_jet, Meets, Orders, along-within, step-answer, step-meets}

-- the tests on two lists of events, one after the other
pub every_two : (h k : List Event) → every in_range (numbers (h ++ k)) ≡ cond (every in_range (numbers h)) (every in_range (numbers k)) false
every_two h k = ap (every in_range) (numbers-append h k) ∙ every_append in_range (numbers h) (numbers k)

module _ (c : ParameterCurve) (k n : ℕ) (o : Orders c k n) where
  -- the last surface carried
  last-carried : {s : SurfaceDerivatives} {a b : CurveDerivatives} {z : ℕ → ℤ} → Meets c k n s a z → along_curve s c n ≡ Ok b → ◌≡◌ {A = Result CurveDerivatives Refusal} (Ok a) (Ok b)
  last-carried {s} {a} {b} p e =
      ap (λ (x : CurveDerivatives). Ok x) p.curve
      ∙ by (every in_range (numbers (formed_by (carried_with c s) n)))
      (sym (along-within c k n s (omega (arith, p.order, o.high)) o.parameter (omega (arith, p.order, o.asked)) o.reach) ∙ e)
    where
      by : (t : Bool) → cond t (Ok (along_jet c k n s)) (Err OutOfRange) ≡ Ok b → ◌≡◌ {A = Result CurveDerivatives Refusal} (Ok (along_jet c k n s)) (Ok b)
      by true e = e
      by false e = no_answer e

  -- the hands of the two roads, and the jets over the integers
  abbrev pub Hands : (ℕ → SurfaceDerivatives) → (ℕ → CurveDerivatives) → (ℕ → ℕ → ℤ) → ℕ → Type 0
  Hands hs hc hz m = (i : ℕ) → i < m → Meets c k n (hs i) (hc i) (hz i)

  -- a number more
  hands_more : {hs : ℕ → SurfaceDerivatives} {hc : ℕ → CurveDerivatives} {hz : ℕ → ℕ → ℤ} (m : ℕ) {s : SurfaceDerivatives} {a : CurveDerivatives} {z : ℕ → ℤ} →
      Hands hs hc hz m → Meets c k n s a z → Hands (with hs m s) (with hc m a) (with hz m z) (suc m)
  hands_more {hs} {hc} {hz} m {s} {a} {z} h p i b = ⊎_elim (λ e. at (eqb i m) (eq-eqb i m e)) (λ l. past (eqb i m) l (ne_eqb i m (λ e. omega arith))) (eq-or-lt_of_le (le_of_suc-le-suc b))
    where
      at : (t : Bool) → t ≡ true → Meets c k n (cond t s (hs i)) (cond t a (hc i)) (cond t z (hz i))
      at true e = p
      at false e = never e

      past : (t : Bool) → i < m → t ≡ false → Meets c k n (cond t s (hs i)) (cond t a (hc i)) (cond t z (hz i))
      past false l e = h i l
      past true l e = never (sym e)

  -- what is to be shown of the steps from the number m on, where the first road is answered with the jet b
  abbrev pub Met : (ℕ → SurfaceDerivatives) → (ℕ → CurveDerivatives) → (ℕ → ℕ → ℤ) → ℕ → List Step → CurveDerivatives → Type 0
  Met hs hc hz m ss b =
      and_then (worked surface_steps hs m ss) (λ s. along_curve s c n) ≡ Ok b →
      worked curve_steps hc m ss ≡ cond (every in_range (numbers (steps_take n hz m ss))) (Ok b) (Err OutOfRange)

  -- one step, and then those after it
  module _ (s : Step) (ss : List Step) {hs : ℕ → SurfaceDerivatives} {hc : ℕ → CurveDerivatives} {hz : ℕ → ℕ → ℤ} (m : ℕ) (h : Hands hs hc hz m)
      (l : s.left < m) (r : s.right < m) {first : SurfaceDerivatives} (e : surface_steps.apply s.operation (hs s.left) (hs s.right) ≡ Ok first) (b : CurveDerivatives) where
    abbrev handed : ℕ → ℕ → ℤ
    handed = with hz m (λ i. (step_with s hz i).value)

    after : CurveDerivatives → Result CurveDerivatives Refusal
    after j = worked curve_steps (with hc m j) (suc m) ss

    in-turn : (t u : Bool) → after (along_jet c k n first) ≡ cond u (Ok b) (Err OutOfRange) →
        and_then (cond t (Ok (along_jet c k n first)) (Err OutOfRange)) after ≡ cond (cond t u false) (Ok b) (Err OutOfRange)
    in-turn true u g = g
    in-turn false u g = refl

    step-met : (Hands (with hs m first) (with hc m (along_jet c k n first)) handed (suc m) →
        after (along_jet c k n first) ≡ cond (every in_range (numbers (steps_take n handed (suc m) ss))) (Ok b) (Err OutOfRange)) →
        and_then (curve_steps.apply s.operation (hc s.left) (hc s.right)) after
        ≡ cond (every in_range (numbers (formed_by (step_with s hz) n ++ steps_take n handed (suc m) ss))) (Ok b) (Err OutOfRange)
    step-met next =
        ap (λ (a : Result CurveDerivatives Refusal). and_then a after) (step-answer c k n o s.operation (h s.left l) (h s.right r) e)
        ∙ in-turn (every in_range (numbers (formed_by (step_with s hz) n))) (every in_range (numbers (steps_take n handed (suc m) ss)))
        (next (hands_more m h (step-meets c k n o s.operation (h s.left l) (h s.right r) e)))
        ∙ ap (λ (t : Bool). cond t (Ok b) (Err OutOfRange)) (sym (every_two (formed_by (step_with s hz) n) (steps_take n handed (suc m) ss)))

  pub steps-met : (ss : List Step) (hs : ℕ → SurfaceDerivatives) (hc : ℕ → CurveDerivatives) (hz : ℕ → ℕ → ℤ) (m : ℕ) → 0 < m → Hands hs hc hz m → names_earlier m ss ≡ true →
      (b : CurveDerivatives) → Met hs hc hz m ss b
  unfolding worked steps_take names_earlier numbers every after
  steps-met [] hs hc hz m p h e b f = last-carried (h (m - 1) (omega arith)) f
  steps-met (s ∷ ss) hs hc hz m p h e b f =
      let x = both_true (ltb s.left m) (cond (ltb s.right m) (names_earlier (suc m) ss) false) e in
      let y = both_true (ltb s.right m) (names_earlier (suc m) ss) x.1 in
      let a = surface_steps.apply s.operation (hs s.left) (hs s.right) in
      let q = first-answered a (λ j. and_then (worked surface_steps (with hs m j) (suc m) ss) (λ s. along_curve s c n))
      (sym (then-assoc a (λ j. worked surface_steps (with hs m j) (suc m) ss) (λ s. along_curve s c n)) ∙ f) in
      step-met s ss m h (ltb-true s.left m x.0) (ltb-true s.right m y.0) q.1 b
      (λ g. steps-met ss (with hs m q.0) (with hc m (along_jet c k n q.0)) (with hz m (λ i. (step_with s hz i).value)) (suc m) (omega arith) g y.1 b q.2)
