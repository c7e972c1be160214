-- The order of an answered recipe's jet, and of an answered road's. Assumes nothing.
use Rattle.std.proofs.Common.{Bool, true, false, cond, ◌||◌, List, [], ◌∷◌, map, ◌≡◌, ℕ, zero, suc, ◌-◌, ◌≤◌, ◌<◌, min, ltb, length, get_or, take, ℤ, Result, Ok, Err, refl, sym, ap, ◌∙◌, subst, le_refl, not-suc-le-zero, arith, length-take, ltb-true, ltb-false, le-ltb, eq-eqb, ne_eqb}
use Rattle.std.specs.Prelude.{⊤}
use native.Mathlib.Nat.{le-min, min-eq_left}
use native.Mathlib.Decide.{ℕ_discrete}
use Rattle.refusals.specs.declared.Refusal.{Refusal}
use Rattle.refusals.specs.declared.Refusal.TheVariants.{OrderAbove20, NoRecipe}
use Rattle.whole.specs.History.{Traced, bare, verdict}
use Rattle.whole.proofs.History.{both_true, settle-bare, both-ok}
use Rattle.calculus.specs.Kind.{regular, plain}
use Rattle.calculus.specs.Carry.{composite_derivatives}
use Rattle.calculus.specs.declared.Operation.{Operation}
use Rattle.calculus.specs.Operation.{curve_operation}
use Rattle.calculus.specs.Order.{curve_entries}
use Rattle.calculus.specs.Orders.{some_above20, smallest}
use Rattle.calculus.specs.JetKind.{tested, above20}
use Rattle.calculus.proofs.Operations.{curve-alike}
use Rattle.calculus.proofs.Tested.{split-second}
use Rattle.exact_formulas.specs.Kinds.{checked, traced}
use Rattle.exact_formulas.specs.Entries.{curve_numbers, surface_numbers, curve_values, surface_values}
use Rattle.exact.specs.declared.CurveDerivatives.{CurveDerivatives}
use Rattle.exact.specs.declared.SurfaceDerivatives.{SurfaceDerivatives}
use Rattle.exact.specs.declared.ParameterCurve.{ParameterCurve}
use Rattle.exact.specs.Names.{answered_curve}
use Rattle.exact.specs.Answer.{curves, curve_answer, on_curves}
use Rattle.exact.specs.Judged.{histories, judged_curve}
use Rattle.exact.specs.Composite.{along_curve}
use Rattle.exact.proofs.Judged.{Settled, settled, Valued, valued, curve-judged}
use Rattle.exact.proofs.CarryJudged.{carried_traces, carry-judged}
use Rattle.roads.specs.declared.Step.{Step}
use Rattle.roads.specs.declared.Recipe.{Recipe}
use Rattle.roads.specs.Recipe.{RecipeKind, and_then, with, names_earlier, well_formed, worked, built}
use Rattle.roads.specs.Roads.{surface_steps, curve_steps, built_surface, built_curve, build_then_carry, every_answer, carry_then_build}
use Rattle.roads.proofs.Answers.{same-answer, no_answer, first-answered}
use Rattle.roads.proofs.Meeting.{result-order}
use Rattle.roads.proofs.Inputs.{counts, smallest-20}

-- the checks of an answered recipe
pub passed : {J : Type 0} (t u : Bool) (work : Result J Refusal) {j : J} → cond t (Err OrderAbove20) (cond u work (Err NoRecipe)) ≡ Ok j → (t ≡ false) × (u ≡ true) × (work ≡ Ok j)
passed true u work e = no_answer e
passed false true work e = (refl, refl, e)
passed false false work e = no_answer e

-- ---- a kind of jet whose operations answer at the order of their jets
pub record Keeps {J : Type 0} (K : RecipeKind J) : Type 0 where
  pub cuts : (n : ℕ) (a : J) → K.order (K.cut n a) ≡ n
  pub keeps : (k : ℕ) → k ≤ 20 → (op : Operation) (a b : J) → K.order a ≡ k → K.order b ≡ k → {j : J} → K.apply op a b ≡ Ok j → K.order j ≡ k

module _ {J : Type 0} {K : RecipeKind J} (w : Keeps K) where
  -- the steps on jets of the order k
  module _ {k : ℕ} (high : k ≤ 20) where
    with-order : (jet-of : ℕ → J) (m : ℕ) (x : J) → ((i : ℕ) → i < m → K.order (jet-of i) ≡ k) → K.order x ≡ k → (i : ℕ) → i < suc m → K.order (with jet-of m x i) ≡ k
    with-order jet-of m x h e i b = by (ℕ_discrete i m)
      where
        by : Dec (i ≡ m) → K.order (with jet-of m x i) ≡ k
        by (yes q) = ap (λ (t : Bool). K.order (cond t x (jet-of i))) (eq-eqb i m q) ∙ e
        by (no q) = ap (λ (t : Bool). K.order (cond t x (jet-of i))) (ne_eqb i m q) ∙ h i (omega arith)

    pub steps-order : (ss : List Step) (jet-of : ℕ → J) (m : ℕ) → 0 < m → ((i : ℕ) → i < m → K.order (jet-of i) ≡ k) → names_earlier m ss ≡ true →
        {j : J} → worked K jet-of m ss ≡ Ok j → K.order j ≡ k
    unfolding worked names_earlier
    steps-order [] jet-of m p h e r = ap K.order (sym (same-answer r)) ∙ h (m - 1) (omega arith)
    steps-order (s ∷ ss) jet-of m p h e r =
        let f = both_true (ltb s.left m) (cond (ltb s.right m) (names_earlier (suc m) ss) false) e in
        let g = both_true (ltb s.right m) (names_earlier (suc m) ss) f.1 in
        let t = first-answered (K.apply s.operation (jet-of s.left) (jet-of s.right)) (λ j. worked K (with jet-of m j) (suc m) ss) r in
        let o = w.keeps k high s.operation (jet-of s.left) (jet-of s.right) (h s.left (ltb-true s.left m f.0)) (h s.right (ltb-true s.right m g.0)) t.1 in
        steps-order ss (with jet-of m t.0) (suc m) (omega arith) (with-order jet-of m t.0 h o) g.1 t.2

  -- an answered recipe passed the checks, and works at the smallest order of the jets given
  module _ (inputs : ℕ) (jets : List J) (steps : ℕ) (program : List Step) {j : J} (e : built K inputs jets steps program ≡ Ok j) where
    abbrev orders : List ℕ
    orders = map K.order (take inputs jets)

    abbrev work : Result J Refusal
    work = worked K (λ i. K.cut (smallest orders) (get_or (take inputs jets) i K.blank)) inputs (take steps program)

    pub built-order : (0 < inputs) × (inputs ≤ 4) × (K.order j ≡ smallest orders)
    built-order =
        let p = passed (some_above20 orders) (well_formed inputs steps (take steps program)) work e in
        let c = counts inputs steps (take steps program) p.1 in (
          c.some,
          c.four,
          steps-order (smallest-20 orders) (take steps program) (λ i. K.cut (smallest orders) (get_or (take inputs jets) i K.blank)) inputs c.some
              (λ i l. w.cuts (smallest orders) (get_or (take inputs jets) i K.blank)) c.names p.2,
        )

-- ---- surfaces and curves
pub surfaces-keep : Keeps surface_steps
surfaces-keep = record { cuts = λ n a. refl; keeps = λ k high op s r p q e. result-order high op s r p q e }

-- what histories come to, where none has a refusal
judged-order : (g : ℕ → Traced) (z : ℕ → ℤ) (n : ℕ) {a : Result CurveDerivatives Refusal} {j : CurveDerivatives} → a ≡ judged_curve g z n → a ≡ Ok j → j.order ≡ n
judged-order g z n is e = ap (λ (x : CurveDerivatives). x.order) (sym (same-answer (both-ok (verdict (histories (curve_entries g n))) (answered_curve n z) (sym is ∙ e)).1))

pub curves-keep : Keeps curve_steps
curves-keep = record { cuts = λ n a. refl; keeps = keep }
  where
    keep : (k : ℕ) → k ≤ 20 → (op : Operation) (a b : CurveDerivatives) → a.order ≡ k → b.order ≡ k → {j : CurveDerivatives} →
        on_curves (curve_operation checked op) a b ≡ Ok j → j.order ≡ k
    keep k high op a b p q e =
        let traces = curve_operation traced op (λ m. bare (curve_numbers a.entries m)) (λ m. bare (curve_numbers b.entries m)) in
        let integers = curve_operation plain op (curve_numbers a.entries) (curve_numbers b.entries) in
        let at : on_curves (curve_operation checked op) a b ≡ curve_answer (curve_operation checked op (curve_values a.entries) (curve_values b.entries)) k =
        rw (p, q, le-ltb 20 k high, min-eq_left (le_refl k)) in
        judged-order traces integers k (at ∙ curve-judged k (curve_operation checked op (curve_values a.entries) (curve_values b.entries)) traces integers
        (curve-alike Settled traced checked settled k op _ _ (curve_values a.entries) (curve_values b.entries) (λ m l. settle-bare (curve_numbers a.entries m)) (λ m l. settle-bare (curve_numbers b.entries m)))
        (curve-alike Valued traced plain valued k op _ _ (curve_numbers a.entries) (curve_numbers b.entries) (λ m l. refl) (λ m l. refl))) e

-- ---- an answered carry has the order asked
module _ (c : ParameterCurve) (n : ℕ) where
  abbrev along : SurfaceDerivatives → Result CurveDerivatives Refusal
  along s = along_curve s c n

  carry-order : (s : SurfaceDerivatives) {j : CurveDerivatives} → along s ≡ Ok j → (j.order ≡ n) × (n ≤ 20)
  carry-order s {j} e =
      let u = curve_numbers c.u in
      let v = curve_numbers c.v in
      let z = surface_numbers s.entries in
      by (above20 s.order c.order || ltb 20 n) (ltb (min s.order c.order) n) (curve_answer (composite_derivatives (regular checked) (curve_values c.u) (curve_values c.v) (surface_values s.entries)) n)
      (λ t. ltb-false 20 n (split-second (above20 s.order c.order) (ltb 20 n) t)) (judged-order (carried_traces u v z) (composite_derivatives (regular plain) u v z) n (carry-judged u v z n)) e
    where
      by : (t u : Bool) (a : Result CurveDerivatives Refusal) → (t ≡ false → n ≤ 20) → (a ≡ Ok j → j.order ≡ n) → tested {B = Result CurveDerivatives Refusal} Err t u true a ≡ Ok j →
          (j.order ≡ n) × (n ≤ 20)
      by true u a h o e = no_answer e
      by false true a h o e = no_answer e
      by false false a h o e = (o e, h refl)

  -- carries in turn, none of which is refused: each has the order asked
  unfoldable pub Asked : List CurveDerivatives → Type 0
  Asked [] = ⊤
  Asked (j ∷ js) = (j.order ≡ n) × Asked js

  carried-asked : (l : List SurfaceDerivatives) {js : List CurveDerivatives} → every_answer (map along l) ≡ Ok js → Asked js × (length js ≡ length l) × (0 < length l → n ≤ 20)
  unfolding every_answer Asked
  carried-asked [] {js} e = subst (λ (x : List CurveDerivatives). Asked x × (length x ≡ 0) × (0 < 0 → n ≤ 20)) (same-answer e) (tt, refl, λ l. absurd (not-suc-le-zero l))
  carried-asked (s ∷ l) {js} e =
      let p = first-answered (along s) (λ j. and_then (every_answer (map along l)) (λ js. Ok (j ∷ js))) e in
      let q = first-answered (every_answer (map along l)) (λ js. Ok (p.0 ∷ js)) p.2 in
      let o = carry-order s p.1 in
      let r = carried-asked l q.1 in
      subst (λ (x : List CurveDerivatives). Asked x × (length x ≡ suc (length l)) × (0 < suc (length l) → n ≤ 20)) (same-answer q.2) ((o.0, r.0), ap suc r.1, λ h. o.1)

  asked-reach : (js : List CurveDerivatives) (i : ℕ) → n ≤ 20 → Asked js → n ≤ smallest (map curves.order (take i js))
  unfolding smallest Asked
  asked-reach [] zero h a = h
  asked-reach [] (suc i) h a = h
  asked-reach (j ∷ js) zero h a = h
  asked-reach (j ∷ js) (suc i) h a = le-min (omega (arith, a.0)) (asked-reach js i h a.1)

  asked-smallest : (js : List CurveDerivatives) (i : ℕ) → 0 < length js → 0 < i → n ≤ 20 → Asked js → smallest (map curves.order (take i js)) ≡ n
  unfolding smallest Asked
  asked-smallest [] i p q h a = absurd (not-suc-le-zero p)
  asked-smallest (j ∷ js) zero p q h a = absurd (not-suc-le-zero q)
  asked-smallest (j ∷ js) (suc i) p q h a = ap (λ (x : ℕ). min x (smallest (map curves.order (take i js)))) a.0 ∙ min-eq_left (asked-reach js i h a.1)

  -- ---- an answered road has the order asked, which is at most 20
  module _ (r : Recipe SurfaceDerivatives) {j : CurveDerivatives} where
    pub first-road-order : build_then_carry r c n ≡ Ok j → (j.order ≡ n) × (n ≤ 20)
    first-road-order e = let t = first-answered (built_surface r) along e in carry-order t.0 t.2

    pub second-road-order : length r.jets ≡ 4 → carry_then_build r c n ≡ Ok j → (j.order ≡ n) × (n ≤ 20)
    second-road-order four e =
        let inputs = take r.inputs r.jets in
        let t = first-answered (every_answer (map along inputs)) (λ l. built_curve (record { inputs = r.inputs; jets = l; steps = r.steps; program = r.program })) e in
        let o = built-order curves-keep r.inputs t.0 r.steps r.program t.2 in
        let a = carried-asked inputs t.1 in
        let p : 0 < length inputs = omega (arith, length-take r.inputs r.jets, four, o.0) in
        let h = a.2 p in
        (o.2 ∙ asked-smallest t.0 r.inputs (omega (arith, a.1, p)) o.0 h a.0, h)
