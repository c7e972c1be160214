-- The formulas of axis and angle read of the entries before theirs only those that are formed, and of jets only the orders up to theirs.
-- Assumes nothing.
use Rattle.std.proofs.Common.{◌≡◌, refl, sym, ap, ap₂, ◌∙◌, Bool, true, false, cond, Ok, Err, List, ℕ, zero, suc, ◌≤◌, ◌<◌, zero-le, min, le_refl, not-suc-le-zero, arith, Float}
use Rattle.refusals.specs.declared.Refusal.TheVariants.{DivisionByZero}
use Rattle.std.specs.Float.{nan}
use Rattle.ieee_vectors.specs.declared.Vector3.{Vector3}
use Rattle.ieee_vectors.specs.Vectors.{minus, times, over, quotient, dot, cross, positive_zero}
use Rattle.calculus.specs.Kind.{regular}
use Rattle.calculus.specs.Rising.{before}
use Rattle.calculus.specs.Array.{curve_array}
use Rattle.calculus.proofs.UpTo.{CurvesAgree, product_by-upto, product-upto}
use Rattle.calculus.proofs.LoopFilling.{curve-earlier}
use Rattle.ieee.specs.SquareRoot.{square_root}
use Rattle.formulas.specs.Real.{real}
use Rattle.formulas.specs.Numbers.{curve_numbers}
use Rattle.calculus.specs.Rational.{rational}
use Rattle.vector_formulas.specs.Vector.{vectors, vector_numbers, vector_array, vector_norm}
use Rattle.formulas.proofs.Curves.{Eq, CurveFilled, numbers-agree}
use Rattle.vector_formulas.proofs.Vectors.{vectors-agree, vectors-upto}
use Rattle.calculus.proofs.Quotients.{all_alike}
use Rattle.calculus.proofs.UpToQuotients.{rational-upto, norm-upto}
use Rattle.rodrigues.specs.Rotation.{two}
use Rattle.partials.specs.AxisAngle.{arm, crosses, lengths, axes, dots, rate_entry, rates, turn_entry, turns, angles, cosine, division_by_zero, some_axis_angle, axis_angle}
use Rattle.partials.specs.declared.AxisAngle.{AxisAngle}
use Rattle.calculus.proofs.Same.{filled-same}
use Rattle.calculus.proofs.LoopCut.{uncut}

-- ---- from the entries before
rate-reads : (r p q : ℕ → Float) (m : ℕ) → CurvesAgree m p q → rate_entry r p m ≡ rate_entry r q m
rate-reads r p q zero h = refl
rate-reads r p q (suc m) h = ap (λ (x : Float). over (minus (r (suc (suc m))) x) (r 0)) (product-upto real (suc m) (λ i l. refl) h (suc m) (le_refl (suc m)))

pub rate-formed : (r : ℕ → Float) {q : List Float} {m : ℕ} → CurveFilled (rates r) m q → m ≤ 20 → rates r m ≡ rate_entry r (curve_numbers q) m
rate-formed r {q} {m} s l =
    rate-reads r (before positive_zero (rate_entry r) m) (curve_numbers q) m (λ i h. curve-earlier 21 nan positive_zero (λ (x : Float). x) (rate_entry r) s i (omega arith))

module _ (rate rate' dot dot' length length' : ℕ → Float) (n : ℕ) (a : CurvesAgree n rate rate') (b : CurvesAgree (suc n) dot dot') (c : CurvesAgree n length length') where
  turn-upto : (m : ℕ) → m ≤ n → (f g : ℕ → Float) → CurvesAgree n f g → turn_entry rate dot length f m ≡ turn_entry rate' dot' length' g m
  turn-upto m l f g h =
      ap₂ over
      (ap₂ minus (ap₂ minus (ap (times two) (product-upto real n a (λ i k. b i (omega arith)) m l)) (b (suc m) (omega arith))) (product-upto real n h c m l))
      (c 0 zero-le)

  turns-agree : CurvesAgree n (turns rate dot length) (turns rate' dot' length')
  turns-agree = all_alike Eq positive_zero positive_zero refl (turn_entry rate dot length) (turn_entry rate' dot' length') n turn-upto

pub turn-formed : (rate dot length : ℕ → Float) {q : List Float} {m : ℕ} → CurveFilled (turns rate dot length) m q → m ≤ 20 →
    turns rate dot length m ≡ turn_entry rate dot length (curve_numbers q) m
turn-formed rate dot length {q} {m} s l =
    turn-upto rate rate dot dot length length m (λ i h. refl) (λ i h. refl) (λ i h. refl) m (le_refl m) (before positive_zero (turn_entry rate dot length) m) (curve_numbers q)
    (λ i h. curve-earlier 21 nan positive_zero (λ (x : Float). x) (turn_entry rate dot length) s i (omega arith))

-- ---- of other jets
pub turns-upto : (rate rate' dot dot' length length' : ℕ → Float) (n : ℕ) → CurvesAgree n rate rate' → CurvesAgree n dot dot' → CurvesAgree n length length' →
    (m : ℕ) → m < n → turns rate dot length m ≡ turns rate' dot' length' m
turns-upto rate rate' dot dot' length length' zero a b c m l = absurd (not-suc-le-zero l)
turns-upto rate rate' dot dot' length length' (suc n) a b c m l =
    turns-agree rate rate' dot dot' length length' n (λ i h. a i (omega arith)) b (λ i h. c i (omega arith)) m (omega arith)

pub angles-upto : (angle : Float) (n : ℕ) (f g : ℕ → Float) → ((m : ℕ) → m < n → f m ≡ g m) → CurvesAgree n (angles angle f) (angles angle g)
angles-upto angle n f g h zero l = refl
angles-upto angle n f g h (suc m) l = h m l

abbrev pub axis-and-angle : (axis angle : List Float) → Float → AxisAngle
axis-and-angle axis angle cosine = record { axis = axis; angle = angle; cosine = cosine }

-- ---- arrays that hold the arms p and q, and what is worked out from them in turn: the crosses, their lengths, the axis and the angle
module _ (center contact0 contact1 : List Float) (r : ℕ → Float) (angle : Float) (n : ℕ) (h : n ≤ 20) {pa qa xa la : List Float}
    (ep : pa ≡ vector_array (arm contact0 center) n) (eq : qa ≡ vector_array (arm contact1 center) n)
    (ex : xa ≡ vector_array (crosses (vector_numbers pa) (vector_numbers qa)) (min n 20))
    (el : la ≡ curve_array positive_zero (vector_norm (vector_numbers xa)) (min n 20)) where
  abbrev p : ℕ → Vector3
  p = arm contact0 center

  abbrev q : ℕ → Vector3
  q = arm contact1 center

  first-arm : CurvesAgree n (vector_numbers pa) p
  first-arm = vectors-agree p n h ep

  second-arm : CurvesAgree n (vector_numbers qa) q
  second-arm = vectors-agree q n h eq

  crosses-held : CurvesAgree n (vector_numbers xa) (crosses p q)
  crosses-held i l =
      vectors-agree (crosses (vector_numbers pa) (vector_numbers qa)) n h (ex ∙ uncut (vector_array (crosses (vector_numbers pa) (vector_numbers qa))) h) i l
      ∙ product_by-upto vectors n cross first-arm second-arm i l

  lengths-held : CurvesAgree n (curve_numbers la) (lengths p q)
  lengths-held i l =
      numbers-agree (vector_norm (vector_numbers xa)) n h (el ∙ uncut (curve_array positive_zero (vector_norm (vector_numbers xa))) h) i l
      ∙ norm-upto real square_root dot n crosses-held i l

  axis-is : {a : List Float} → a ≡ vector_array (rational vectors quotient (vector_numbers xa) (curve_numbers la)) (min n 20) → a ≡ vector_array (axes p q) n
  axis-is e =
      e ∙ uncut (vector_array (rational vectors quotient (vector_numbers xa) (curve_numbers la))) h
      ∙ vectors-upto (rational vectors quotient (vector_numbers xa) (curve_numbers la)) (axes p q) n (rational-upto vectors quotient n crosses-held lengths-held)

  angle-is : (rate : ℕ → Float) {a : List Float} →
      a ≡ curve_array positive_zero (angles angle (turns rate (dots (vector_numbers pa) (vector_numbers qa)) (curve_numbers la))) n →
      a ≡ curve_array positive_zero (angles angle (turns rate (dots p q) (lengths p q))) n
  angle-is rate e =
      let f = turns rate (dots (vector_numbers pa) (vector_numbers qa)) (curve_numbers la) in
      let g = turns rate (dots p q) (lengths p q) in
      let t = turns-upto rate rate (dots (vector_numbers pa) (vector_numbers qa)) (dots p q) (curve_numbers la) (lengths p q) n (λ i l. refl)
      (product_by-upto (regular real) n dot first-arm second-arm) lengths-held in
      e ∙ filled-same 21 (suc n) positive_zero (angles angle f) (angles angle g) (λ k l. angles-upto angle n f g t k (omega arith))

  -- what the test picks
  picked : {b : Bool} → division_by_zero (curve_numbers la 0) (r 0) ≡ b →
      cond b (Err DivisionByZero) (Ok (some_axis_angle p q r angle n)) ≡ axis_angle center contact0 contact1 r angle n
  picked e =
      let division = ap (λ (x : Float). division_by_zero x (r 0)) (lengths-held 0 zero-le) in
      ap (λ (b : Bool). cond b (Err DivisionByZero) (Ok (some_axis_angle p q r angle n))) (sym e ∙ division)

  pub refused : division_by_zero (curve_numbers la 0) (r 0) ≡ true → Err DivisionByZero ≡ axis_angle center contact0 contact1 r angle n
  refused e = picked e

  pub answered : {x a : List Float} {k : Float} → division_by_zero (curve_numbers la 0) (r 0) ≡ false →
      x ≡ vector_array (rational vectors quotient (vector_numbers xa) (curve_numbers la)) (min n 20) →
      a ≡ curve_array positive_zero (angles angle (turns (rates r) (dots (vector_numbers pa) (vector_numbers qa)) (curve_numbers la))) n →
      k ≡ cosine (vector_numbers pa 0) (vector_numbers qa 0) (r 0) →
      Ok (axis-and-angle x a k) ≡ axis_angle center contact0 contact1 r angle n
  answered e x a k =
      let axis = axis-is x in
      let turned = angle-is (rates r) a in
      let cos = k ∙ ap₂ (λ (y z : Vector3). cosine y z (r 0)) (first-arm 0 zero-le) (second-arm 0 zero-le) in
      (λ i. Ok (axis-and-angle (axis i) (turned i) (cos i))) ∙ picked e
