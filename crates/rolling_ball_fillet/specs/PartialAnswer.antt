-- What the functions on axis, angle and partials return: the values, or document 01's refusal. Checked as 1, 2, 5, then 7, then 10.
-- Assumes nothing.
use Rattle.std.specs.Prelude.{ℕ, suc, Bool, cond, ◌&&◌, ◌||◌, ltb, Float, Result, Ok, Err}
use Rattle.std.specs.Float.Ieee.Scale.{finite}
use Rattle.ieee_vectors.specs.declared.Vector3.{Vector3}
use Rattle.refusals.specs.declared.Refusal.{Refusal}
use Rattle.refusals.specs.declared.Refusal.TheVariants.{AnswerNotFinite}
use Rattle.vectors.specs.Answers.{returned_vector}
use Rattle.formulas.specs.Numbers.{curve_numbers}
use Rattle.calculus.specs.JetKind.{finite_up_to, tested}
use Rattle.derivatives.specs.declared.CurveDerivatives.{CurveDerivatives}
use Rattle.partials.specs.AxisAngle.{axis_angle}
use Rattle.partials.specs.declared.AxisAngle.{AxisAngle}
use Rattle.rolling_ball_fillet.specs.Center.{finite_contacts}
use Rattle.rolling_ball_fillet.specs.Jets.{cut_ders, record_beyond, short_contacts}
use Rattle.rolling_ball_fillet.specs.declared.CenterContactDers.{CenterContactDers}
use Rattle.rolling_ball_fillet.specs.declared.VderInfo.{VderInfo}
use Rattle.rolling_ball_fillet.specs.declared.VderInfoWithCosine.{VderInfoWithCosine}
use Rattle.derivatives.specs.Answer.{curves}
use Rattle.vector_derivatives.specs.Answer.{vector_curves}

-- ---- axis and angle
abbrev pub info_of : CenterContactDers → ℕ → AxisAngle → VderInfo
info_of d n a = record {
  cc_ders = cut_ders d n;
  axis_ders = record { order = n; entries = a.axis };
  angle_ders = record { order = n; entries = a.angle };
}

abbrev pub with_cosine : CenterContactDers → ℕ → AxisAngle → VderInfoWithCosine
with_cosine d n a = record { info = info_of d n a; cosine = a.cosine }

abbrev pub info_answer : CenterContactDers → ℕ → Result AxisAngle Refusal → Result VderInfoWithCosine Refusal
info_answer d n (Ok a) = Ok (with_cosine d n a)
info_answer d n (Err r) = Err r

-- without tests of what is finite
unfoldable pub vder_info : CenterContactDers → (r : ℕ → Float) → Float → ℕ → Result VderInfoWithCosine Refusal
vder_info d r angle n = info_answer d n (axis_angle d.center_ders.entries d.contact0_ders.entries d.contact1_ders.entries r angle n)

-- the entries up to the order n, those of the contacts and parameters up to n + 1
abbrev pub finite_info : VderInfo → ℕ → Bool
finite_info i n = finite_contacts i.cc_ders n && finite_up_to vector_curves i.axis_ders n && finite_up_to curves i.angle_ders n

-- 10 where what is answered is not finite
abbrev pub finite_answer : ℕ → VderInfoWithCosine → Result VderInfoWithCosine Refusal
finite_answer n a = cond (finite_info a.info n && finite a.cosine) (Ok a) (Err AnswerNotFinite)

abbrev pub returned_info : Result VderInfoWithCosine Refusal → ℕ → Result VderInfoWithCosine Refusal
returned_info (Ok a) n = finite_answer n a
returned_info (Err r) n = Err r

-- the tests before the work: the contacts, their parameters and the radius have the order n + 1 or more, and are finite up to it
abbrev pub beyond : CenterContactDers → CurveDerivatives → Bool
beyond d r = record_beyond d || ltb 20 r.order

abbrev pub short : CenterContactDers → CurveDerivatives → ℕ → Bool
short d r k = short_contacts d k || ltb r.order k

abbrev pub finite_given : CenterContactDers → CurveDerivatives → Float → ℕ → Bool
finite_given d r angle n = finite_contacts d n && finite_up_to curves r (suc n) && finite angle

abbrev pub vder_info_answer : CenterContactDers → CurveDerivatives → Float → Result VderInfoWithCosine Refusal
vder_info_answer d r angle =
    let n = d.center_ders.order in
    tested Err (beyond d r) (short d r (suc n)) (finite_given d r angle n) (returned_info (vder_info d (curve_numbers r.entries) angle n) n)

-- ---- partials, worked at the order k
abbrev pub info_beyond : VderInfo → Bool
info_beyond i = record_beyond i.cc_ders || ltb 20 i.axis_ders.order || ltb 20 i.angle_ders.order

abbrev pub short_info : VderInfo → ℕ → Bool
short_info i k =
    ltb i.cc_ders.center_ders.order k || short_contacts i.cc_ders (suc k) || ltb i.axis_ders.order k || ltb i.angle_ders.order k

abbrev pub finite_inputs : VderInfo → ℕ → (u s c : Float) → Bool
finite_inputs i k u s c = finite_info i k && finite u && finite s && finite c

abbrev pub partial_answer : (VderInfo → (u s c : Float) → Vector3) → ℕ → VderInfo → (u s c : Float) → Result Vector3 Refusal
partial_answer partial k i u s c = tested Err (info_beyond i) (short_info i k) (finite_inputs i k u s c) (returned_vector (partial i u s c))
