-- What the fillet's functions answer is delivered whole: the functions that write its jets refuse none of them, where each list lent has just
-- the length that is due. Assumes nothing.
use Rattle.std.proofs.Common.{◌≡◌, refl, sym, ap, ap₂, ◌∙◌, subst, Bool, true, false, cond, ◌&&◌, ◌||◌, List, [], ◌∷◌, ℕ, suc, ◌+◌, ◌*◌, ◌≤◌, arith, ltb, length, Float, ltb-false, eq-eqb, Result, Ok, Err}
use Rattle.std.specs.Float.Ieee.Scale.{finite}
use Rattle.std.proofs.lemmas.Bool.{and_parts, or_parts}
use Rattle.std.specs.Prelude.{⊤}
use Rattle.refusals.specs.declared.Refusal.{Refusal}
use Rattle.refusals.specs.declared.Refusal.TheVariants.{OrderAbove20, Shape, InputNotFinite, AnswerNotFinite}
use Rattle.calculus.specs.Order.{curve_entries, pairs}
use Rattle.calculus.specs.JetKind.{JetKind, finite_up_to, into_list}
use Rattle.calculus.proofs.Tested.{into-worked}
use Rattle.formulas.specs.Numbers.{curve_numbers}
use Rattle.vector_formulas.specs.Vector.{vector_numbers, flat}
use Rattle.derivatives.specs.declared.CurveDerivatives.{CurveDerivatives}
use Rattle.derivatives.specs.declared.ParameterCurve.{ParameterCurve}
use Rattle.vector_derivatives.specs.declared.VectorCurveDerivatives.{VectorCurveDerivatives}
use Rattle.partials.specs.declared.AxisAngle.{AxisAngle}
use Rattle.partials.specs.AxisAngle.{axis_angle}
use Rattle.rolling_ball_fillet.specs.PartialAnswer as partial
use Rattle.contacts.specs.declared.CenterContacts.{CenterContacts}
use Rattle.contacts.specs.Center.{center_contacts as contacts_at}
use Rattle.rolling_ball_fillet.specs.Center as center
use Rattle.rolling_ball_fillet.specs.declared.ContactCircle.{ContactCircle}
use Rattle.rolling_ball_fillet.specs.declared.RollingBallFilletSurface.{RollingBallFilletSurface}
use Rattle.rolling_ball_fillet.specs.declared.CenterContactDers.{CenterContactDers}
use Rattle.rolling_ball_fillet.specs.declared.VderInfoWithCosine.{VderInfoWithCosine}
use Rattle.fillet_lists.specs.Delivery.{Three, Five, deliver_info, deliver_contacts}
use Rattle.given.specs.Values.{written}
use Rattle.given.proofs.Delivered.{by-test}
use Rattle.vector_derivatives.specs.Answer.{vector_curves}
use Rattle.derivatives.specs.Answer.{parameters, curves}

-- ---- one jet of the order k, into a list of just its length
module _ {X E J : Type 0} (K : JetKind X E J) where
  left : (a : J) (out : List X) (k : ℕ) → k ≤ 20 → K.order a ≡ k → length out ≡ K.count k → finite_up_to K a k ≡ true →
      K.list (K.numbers a) (K.order a) ≡ (into_list K a out).1
  left a out k h o e p =
      ap (λ (r : Result ⊤ Refusal × List X). r.1)
      (into-worked K a out (subst (λ (j : ℕ). j ≤ 20) (sym o) h) (ap K.count (sym o)) e (sym p ∙ ap (finite_up_to K a) (sym o)) refl)

one_written : (x : Float) (out : List Float) → length out ≡ 1 → x ∷ [] ≡ (written (x ∷ []) out).1
one_written x out e = ap (λ (b : Bool). (cond {A = ℕ × List Float} b (0, x ∷ []) (2, out)).1) (sym (eq-eqb (length out) 1 e))

-- ---- axis, angle and cosine
module _ (d : CenterContactDers) (r : CurveDerivatives) (t : Float) where
  abbrev n : ℕ
  n = d.center_ders.order

  -- both jets have the centre's order, and are finite
  pub record Entire (a : VderInfoWithCosine) : Type 0 where
    pub low : n ≤ 19
    pub axis : a.info.axis_ders.order ≡ n
    pub angle : a.info.angle_ders.order ≡ n
    pub axis-finite : finite_up_to vector_curves a.info.axis_ders n ≡ true
    pub angle-finite : finite_up_to curves a.info.angle_ders n ≡ true

  abbrev Whole : Result VderInfoWithCosine Refusal → Type 0
  Whole (Ok a) = Entire a
  Whole (Err c) = ⊤

  returned : n ≤ 19 → (x : Result AxisAngle Refusal) → Whole (partial.returned_info (partial.info_answer d n x) n)
  returned h (Ok x) =
      let a = partial.with_cosine d n x in
      let p = center.finite_contacts a.info.cc_ders n in
      let q = finite_up_to vector_curves a.info.axis_ders n in
      let s = finite_up_to curves a.info.angle_ders n in
      let w = finite a.cosine in
      let jets : (partial.finite_info a.info n && w) ≡ true → ((p && q) ≡ true) × (s ≡ true) = λ f. and_parts (p && q) s (and_parts (p && q && s) w f).0 in
      by-test Whole (partial.finite_info a.info n && w) (Ok a) (Err AnswerNotFinite)
      (λ f. record {
        low = h;
        axis = refl;
        angle = refl;
        axis-finite = (and_parts p q (jets f).0).1;
        angle-finite = (jets f).1;
      })
      (λ _. tt)
  returned h (Err c) = tt

  abbrev answer : Result VderInfoWithCosine Refusal
  answer = partial.vder_info_answer d r t

  whole : Whole answer
  unfolding partial.vder_info
  whole =
      let x = axis_angle d.center_ders.entries d.contact0_ders.entries d.contact1_ders.entries (curve_numbers r.entries) t n in
      let back = partial.returned_info (partial.info_answer d n x) n in
      let given = partial.finite_given d r t n in
      let short = partial.short d r (suc n) in
      by-test Whole (partial.beyond d r) (Err OrderAbove20) (cond short (Err Shape) (cond given back (Err InputNotFinite))) (λ _. tt)
      (λ near. by-test Whole short (Err Shape) (cond given back (Err InputNotFinite)) (λ _. tt)
      (λ _. by-test Whole given back (Err InputNotFinite) (λ _. returned (low near) x) (λ _. tt)))
    where
      low : partial.beyond d r ≡ false → n ≤ 19
      low near = ltb-false 19 n (or_parts (ltb 19 n) _ (or_parts (ltb 19 n || _) (ltb 20 r.order) near).0).0

  pub info-delivered : (a : VderInfoWithCosine) → answer ≡ Ok a → (axis angle cosine : List Float) → length axis ≡ 3 * suc n → length angle ≡ suc n → length cosine ≡ 1 →
      let x = a.info.axis_ders in
      let y = a.info.angle_ders in
      ◌≡◌ {A = ℕ × Three} (deliver_info answer (axis, (angle, cosine)))
      (0, (flat (curve_entries (vector_numbers x.entries) x.order), (curve_entries (curve_numbers y.entries) y.order, a.cosine ∷ [])))
  unfolding deliver_info
  info-delivered a z axis angle cosine e f g =
      let m : Entire a = subst Whole z whole in
      let x = a.info.axis_ders in
      let y = a.info.angle_ders in
      let h : n ≤ 20 = omega (arith, m.low) in
      let three : List Float → List Float → List Float → ℕ × Three = λ i j k. (0, (i, (j, k))) in
      ap (λ (k : Result VderInfoWithCosine Refusal). deliver_info k (axis, (angle, cosine))) z
      ∙ sym (ap (λ i. three i (curve_entries (curve_numbers y.entries) y.order) (a.cosine ∷ [])) (left vector_curves x axis n h m.axis e m.axis-finite)
      ∙ ap (λ j. three (into_list vector_curves x axis).1 j (a.cosine ∷ [])) (left curves y angle n h m.angle f m.angle-finite)
      ∙ ap (three (into_list vector_curves x axis).1 (into_list curves y angle).1) (one_written a.cosine cosine g))

-- ---- the centre, the contacts and their parameters
module _ (f : RollingBallFilletSurface) (cc : ContactCircle) (n : ℕ) where
  pub record Full (d : CenterContactDers) : Type 0 where
    pub low : n ≤ 19
    pub center-order : d.center_ders.order ≡ n
    pub contact0-order : d.contact0_ders.order ≡ n + 1
    pub contact1-order : d.contact1_ders.order ≡ n + 1
    pub uv0-order : d.uv0_ders.order ≡ n + 1
    pub uv1-order : d.uv1_ders.order ≡ n + 1
    pub all-finite : center.finite_contacts d n ≡ true

  abbrev All : Result CenterContactDers Refusal → Type 0
  All (Ok d) = Full d
  All (Err c) = ⊤

  back_full : n ≤ 19 → (x : Result CenterContacts Refusal) → All (center.returned_contacts (center.answered_contacts n x) n)
  back_full h (Ok x) =
      let d = center.ders_of n x in
      by-test All (center.finite_contacts d n) (Ok d) (Err AnswerNotFinite)
      (λ g. record { low = h; center-order = refl; contact0-order = refl; contact1-order = refl; uv0-order = refl; uv1-order = refl; all-finite = g }) (λ _. tt)
  back_full h (Err c) = tt

  abbrev reply : Result CenterContactDers Refusal
  reply = center.center_contact_answer f cc n

  full : All reply
  unfolding center.center_contacts
  full =
      let back = center.returned_contacts (center.answered_contacts n (contacts_at (center.placed f cc) n)) n in
      let given = center.finite_given f cc (n + 1) in
      let short = center.short f (n + 1) in
      by-test All (center.beyond f n) (Err OrderAbove20) (cond short (Err Shape) (cond given back (Err InputNotFinite))) (λ _. tt)
      (λ near. by-test All short (Err Shape) (cond given back (Err InputNotFinite)) (λ _. tt)
      (λ _. by-test All given back (Err InputNotFinite)
      (λ _. back_full (ltb-false 19 n (or_parts (ltb 19 n) (center.jets_above20 f) near).0) (contacts_at (center.placed f cc) n)) (λ _. tt)))

  abbrev vector_list : VectorCurveDerivatives → List Float
  vector_list a = flat (curve_entries (vector_numbers a.entries) a.order)

  abbrev parameter_list : ParameterCurve → List Float
  parameter_list a = pairs (curve_numbers a.u) (curve_numbers a.v) 0 (suc a.order)

  pub contacts-delivered : (d : CenterContactDers) → reply ≡ Ok d → (x p q u v : List Float) → length x ≡ 3 * suc n → length p ≡ 3 * suc (n + 1) →
      length q ≡ 3 * suc (n + 1) → length u ≡ 2 * suc (n + 1) → length v ≡ 2 * suc (n + 1) →
      ◌≡◌ {A = ℕ × Five} (deliver_contacts reply (x, (p, (q, (u, v)))))
      (0, (vector_list d.center_ders, (vector_list d.contact0_ders, (vector_list d.contact1_ders, (parameter_list d.uv0_ders, parameter_list d.uv1_ders)))))
  unfolding deliver_contacts
  contacts-delivered d z x p q u v ex ep eq eu ev =
      let m : Full d = subst All z full in
      let low : n ≤ 20 = omega (arith, m.low) in
      let high : n + 1 ≤ 20 = omega (arith, m.low) in
      let a = finite_up_to vector_curves d.center_ders n in
      let b = finite_up_to vector_curves d.contact0_ders (n + 1) in
      let c = finite_up_to vector_curves d.contact1_ders (n + 1) in
      let s = finite_up_to parameters d.uv0_ders (n + 1) in
      let t = finite_up_to parameters d.uv1_ders (n + 1) in
      let all = and_parts (a && (b && c)) (s && t) m.all-finite in
      let vs = and_parts a (b && c) all.0 in
      let bc = and_parts b c vs.1 in
      let ps = and_parts s t all.1 in
      let five : List Float → List Float → List Float → List Float → List Float → ℕ × Five = λ i j k l r. (0, (i, (j, (k, (l, r))))) in
      let i = left vector_curves d.center_ders x n low m.center-order ex vs.0 in
      let j = left vector_curves d.contact0_ders p (n + 1) high m.contact0-order ep bc.0 in
      let k = left vector_curves d.contact1_ders q (n + 1) high m.contact1-order eq bc.1 in
      let l = left parameters d.uv0_ders u (n + 1) high m.uv0-order eu ps.0 in
      let r = left parameters d.uv1_ders v (n + 1) high m.uv1-order ev ps.1 in
      ap (λ (w : Result CenterContactDers Refusal). deliver_contacts w (x, (p, (q, (u, v))))) z
      ∙ sym (ap₂ (λ (e : List Float × List Float) (w : List Float × (List Float × List Float)). five e.0 e.1 w.0 w.1.0 w.1.1) (ap₂ pair i j) (ap₂ pair k (ap₂ pair l r)))
    where
      pair : {A B : Type 0} → A → B → A × B
      pair y w = (y, w)
