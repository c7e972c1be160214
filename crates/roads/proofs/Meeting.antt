-- The jets of the two roads side by side: a surface of the first, a curve of the second, and the same curve over the integers. What a call on them
-- answers. Assumes nothing.
use Rattle.std.proofs.Common.{Bool, cond, List, ◌≡◌, ℕ, suc, ◌+◌, ◌≤◌, ℤ, pos, Result, Ok, Err, refl, sym, ap, ap₂, ◌∙◌, le_refl, arith, lt-ltb, le-ltb}
use native.Mathlib.Nat.{min-eq_left}
use Rattle.refusals.specs.declared.Refusal.{Refusal}
use Rattle.refusals.specs.declared.Refusal.TheVariants.{OutOfRange}
use Rattle.whole.specs.Checked.{Whole, in_range}
use Rattle.whole.specs.History.{Traced, Verdict, bare, verdict, numbers, every}
use Rattle.whole.proofs.History.{settle-bare}
use Rattle.calculus.specs.Kind.{regular, plain}
use Rattle.calculus.specs.Array.{curve_array}
use Rattle.calculus.specs.Carry.{composite_derivatives}
use Rattle.calculus.proofs.Related.{same, regulars}
use Rattle.calculus.proofs.UpTo.{CurvesAgree, SurfacesAgree}
use Rattle.calculus.proofs.CarryAlike.{composite_derivatives-alike}
use Rattle.calculus.proofs.Laws.{carried, carry-upto}
use Rattle.calculus.proofs.LoopFilling.{filled_at}
use Rattle.calculus.proofs.LoopSurfaceFilling.{array_at}
use Rattle.exact.specs.declared.CurveDerivatives.{CurveDerivatives}
use Rattle.exact.specs.declared.SurfaceDerivatives.{SurfaceDerivatives}
use Rattle.exact.specs.declared.ParameterCurve.{ParameterCurve}
use Rattle.exact_formulas.specs.Kinds.{checked, traced}
use Rattle.exact_formulas.specs.Entries.{curve_numbers, surface_numbers, curve_values, surface_values}
use Rattle.exact.specs.Names.{answered_surface}
use Rattle.exact.specs.Answer.{curves, surfaces, curve_answer, surface_answer, on_curves, on_surfaces}
use Rattle.exact.specs.Judged.{histories}
use Rattle.exact.specs.Composite.{along_curve}
use Rattle.exact.proofs.Judged.{Settled, settled, Valued, valued, Sound, curve-exact, surface-answered}
use Rattle.exact.proofs.Orders.{within, passed}
use Rattle.calculus.proofs.Same.{curve-entries-same}
use Rattle.exact.proofs.CarryJudged.{carry-in-range}
use Rattle.calculus.specs.declared.Operation.{Operation}
use Rattle.calculus.specs.Operation.{curve_operation, surface_operation}
use Rattle.roads.specs.Formed.{formed_by, carried_with}
use Rattle.calculus.proofs.Operations.{curve-alike, surface-alike}
use Rattle.roads.proofs.Operations.{carry-operation, carry-exact}
use Rattle.roads.proofs.Answers.{same-answer}

-- ---- calls on jets of one order
module _ {n : ℕ} (h : n ≤ 20) where
  pub on-curves : (f : (ℕ → Whole) → (ℕ → Whole) → ℕ → Whole) (x y : List ℤ) →
      on_curves f (record { order = n; entries = x }) (record { order = n; entries = y }) ≡ curve_answer (f (curve_values x) (curve_values y)) n
  on-curves f x y = rw (le-ltb 20 n h, min-eq_left (le_refl n))

  pub on-surfaces : (f : (ℕ → ℕ → Whole) → (ℕ → ℕ → Whole) → ℕ → ℕ → Whole) (s r : SurfaceDerivatives) → s.order ≡ n → r.order ≡ n →
      on_surfaces f s r ≡ surface_answer (f (surface_values s.entries) (surface_values r.entries)) n
  on-surfaces f s r p q = rw (p, q, le-ltb 20 n h, min-eq_left (le_refl n))

  pub curve-array-at : (a : ℕ → ℤ) → CurvesAgree n (curve_numbers (curve_array (pos 0) a n)) a
  curve-array-at a i l =
      filled_at 21 (pos 0) (pos 0) a (suc n) i (omega arith) ∙ ap (λ (t : Bool). cond t (a i) (pos 0)) (lt-ltb i (suc n) (omega arith))

-- ---- one operation, answered on surfaces of the order k
module _ {k : ℕ} (high : k ≤ 20) (op : Operation) (s r : SurfaceDerivatives) (p : s.order ≡ k) (q : r.order ≡ k) {t : SurfaceDerivatives}
    (e : on_surfaces (surface_operation checked op) s r ≡ Ok t) where
  abbrev entries : ℕ → ℕ → Traced
  entries = surface_operation traced op (λ i j. bare (surface_numbers s.entries i j)) (λ i j. bare (surface_numbers r.entries i j))

  abbrev values : ℕ → ℕ → Whole
  values = surface_operation checked op (surface_values s.entries) (surface_values r.entries)

  integers : ℕ → ℕ → ℤ
  integers = surface_operation plain op (surface_numbers s.entries) (surface_numbers r.entries)

  answered : (◌≡◌ {A = Result SurfaceDerivatives Refusal} (Ok t) (answered_surface k integers))
      × ((i j : ℕ) → i + j ≤ k → ◌≡◌ {A = Verdict} (verdict (entries i j).history) (Ok tt))
  unfolding integers
  answered =
      let is = on-surfaces high (surface_operation checked op) s r p q in
      let h = surface-answered k values entries integers
      (surface-alike Settled traced checked settled k op _ _ (surface_values s.entries) (surface_values r.entries)
      (λ i j l. settle-bare (surface_numbers s.entries i j)) (λ i j l. settle-bare (surface_numbers r.entries i j)))
      (surface-alike Valued traced plain valued k op _ _ (surface_numbers s.entries) (surface_numbers r.entries) (λ i j l. refl) (λ i j l. refl))
      (sym is ∙ e) in
      (sym e ∙ is ∙ h.0, h.1)

  -- no entry was refused, and the result has the order k and the numbers of the integers
  result-verdicts : (i j : ℕ) → i + j ≤ k → ◌≡◌ {A = Verdict} (verdict (entries i j).history) (Ok tt)
  result-verdicts = answered.1

  result-jet : t ≡ surfaces.made k integers
  result-jet = same-answer answered.0

  pub result-order : t.order ≡ k
  result-order = ap (λ (x : SurfaceDerivatives). x.order) result-jet

  result-numbers : SurfacesAgree k (surface_numbers t.entries) (surface_operation plain op (surface_numbers s.entries) (surface_numbers r.entries))
  unfolding integers
  result-numbers i j l =
      ap (λ (x : SurfaceDerivatives). surface_numbers x.entries i j) result-jet
      ∙ array_at (pos 0) (pos 0) integers k i j high l

-- ---- along the curve c, up to the order n; the recipe works on the surfaces at the order k
module _ (c : ParameterCurve) (k n : ℕ) where
  -- a surface's numbers carried, over the integers, and as the jet that an answer holds
  abbrev pub along_numbers : SurfaceDerivatives → ℕ → ℤ
  along_numbers s = carried (curve_numbers c.u) (curve_numbers c.v) (surface_numbers s.entries)

  abbrev pub along_jet : SurfaceDerivatives → CurveDerivatives
  along_jet s = curves.made n (along_numbers s)

  -- a surface in the first road's hand, the curve of the same number in the second's, and that number's jet over the integers
  pub record Meets (s : SurfaceDerivatives) (a : CurveDerivatives) (z : ℕ → ℤ) : Type 0 where
    pub order : s.order ≡ k
    pub curve : a ≡ along_jet s
    pub number : CurvesAgree n z (along_numbers s)

  -- carrying a surface of order at least n
  pub record Orders : Type 0 where
    pub high : k ≤ 20
    pub parameter : c.order ≤ 20
    pub asked : n ≤ k
    pub reach : n ≤ c.order

  pub carried-value : (s : SurfaceDerivatives) (m : ℕ) → (carried_with c s m).value ≡ along_numbers s m
  carried-value s m =
      composite_derivatives-alike Valued Valued (regular traced) (regular plain) (regulars valued) m
      (λ i. bare (curve_numbers c.u i)) (λ i. bare (curve_numbers c.v i)) (curve_numbers c.u) (curve_numbers c.v) (λ i j. bare (surface_numbers s.entries i j)) (surface_numbers s.entries)
      (λ i l. refl) (λ i l. refl) (λ i j l. refl) m (le_refl m)

  pub along-within : (s : SurfaceDerivatives) → s.order ≤ 20 → c.order ≤ 20 → n ≤ s.order → n ≤ c.order →
      along_curve s c n ≡ cond (every in_range (numbers (formed_by (carried_with c s) n))) (Ok (along_jet s)) (Err OutOfRange)
  along-within s hs hc ls lc =
      let answer = curve_answer (composite_derivatives (regular checked) (curve_values c.u) (curve_values c.v) (surface_values s.entries)) n in
      sym (passed s.order c.order n (within s.order c.order n hs hc (omega arith) ls lc) answer)
      ∙ carry-in-range (curve_numbers c.u) (curve_numbers c.v) (surface_numbers s.entries) n

  -- the same operation on the curves that the surfaces meet
  module _ (o : Orders) (op : Operation) {s r : SurfaceDerivatives} {a b : CurveDerivatives} {y z : ℕ → ℤ} (p : Meets s a y) (q : Meets r b z)
      {jet : SurfaceDerivatives} (e : on_surfaces (surface_operation checked op) s r ≡ Ok jet) where
    verdicts : (i j : ℕ) → i + j ≤ k →
        ◌≡◌ {A = Verdict} (verdict (surface_operation traced op (λ i j. bare (surface_numbers s.entries i j)) (λ i j. bare (surface_numbers r.entries i j)) i j).history) (Ok tt)
    verdicts = result-verdicts o.high op s r p.order q.order e

    result-along : CurvesAgree n (curve_operation plain op (along_numbers s) (along_numbers r)) (along_numbers jet)
    result-along i l =
        carry-operation (curve_numbers c.u) (curve_numbers c.v) (surface_numbers s.entries) (surface_numbers r.entries) k n o.asked op verdicts i l
        ∙ sym (carry-upto (curve_numbers c.u) (curve_numbers c.v) n (λ i j b. result-numbers o.high op s r p.order q.order e i j (omega (arith, o.asked))) i l)

    -- the operation on the curves, by the integers in hand, and by those carried
    abbrev pub in_hand : ℕ → Traced
    in_hand = curve_operation traced op (λ i. bare (y i)) (λ i. bare (z i))

    abbrev by_numbers : ℕ → Traced
    by_numbers = curve_operation traced op (λ i. bare (along_numbers s i)) (λ i. bare (along_numbers r i))

    small : n ≤ 20
    small = omega (arith, o.high, o.asked)

    hand-numbers : CurvesAgree n in_hand by_numbers
    hand-numbers =
        curve-alike (λ (a b : Traced). a ≡ b) traced traced (same traced) n op _ _ _ _ (λ i l. ap bare (p.number i l)) (λ i l. ap bare (q.number i l))

    numbers-sound : (m : ℕ) → m ≤ n → Sound (by_numbers m) (curve_operation plain op (along_numbers s) (along_numbers r) m)
    numbers-sound = carry-exact (curve_numbers c.u) (curve_numbers c.v) (surface_numbers s.entries) (surface_numbers r.entries) k n o.asked op verdicts

    numbers-settle : (m : ℕ) → m ≤ n → Settled (by_numbers m) (curve_operation checked op (curve_values (along_jet s).entries) (curve_values (along_jet r).entries) m)
    numbers-settle =
        curve-alike Settled traced checked settled n op _ _ (curve_values (along_jet s).entries) (curve_values (along_jet r).entries)
        (λ i l. settle-bare (along_numbers s i) ∙ ap (λ (x : ℤ). Ok x) (sym (curve-array-at small (along_numbers s) i l)))
        (λ i l. settle-bare (along_numbers r i) ∙ ap (λ (x : ℤ). Ok x) (sym (curve-array-at small (along_numbers r) i l)))

    numbers-value : (m : ℕ) → m ≤ n → Valued (by_numbers m) (along_numbers jet m)
    numbers-value m l = (numbers-sound m l).0 ∙ result-along m l

    -- the second road's step is answered with the first one's result carried, or refused 9
    pub step-answer : on_curves (curve_operation checked op) a b ≡ cond (every in_range (numbers (formed_by in_hand n))) (Ok (along_jet jet)) (Err OutOfRange)
    step-answer =
        ap₂ (on_curves (curve_operation checked op)) p.curve q.curve
        ∙ on-curves small (curve_operation checked op) (along_jet s).entries (along_jet r).entries
        ∙ curve-exact n (curve_operation checked op (curve_values (along_jet s).entries) (curve_values (along_jet r).entries)) by_numbers (along_numbers jet)
        numbers-settle (λ m l. (numbers-value m l, (numbers-sound m l).1))
        ∙ ap (λ (h : List Traced). cond (every in_range (numbers (histories h))) (Ok (along_jet jet)) (Err OutOfRange))
        (sym (curve-entries-same n hand-numbers))

    pub step-meets : Meets jet (along_jet jet) (λ m. (in_hand m).value)
    step-meets = record {
      order = result-order o.high op s r p.order q.order e;
      curve = refl;
      number = λ m l. ap (λ (t : Traced). t.value) (hand-numbers m l) ∙ numbers-value m l;
    }
