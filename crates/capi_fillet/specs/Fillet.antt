-- The functions of the fillet over lists: what is given is tested, the records of the lists go to the fillet's function, and its answer goes
-- into what is lent. Assumes nothing.
use Rattle.std.specs.Prelude.{List, ℕ, length, Float, Result}
use Rattle.ieee_vectors.specs.Vectors.{positive_zero}
use Rattle.refusals.specs.declared.Refusal.{Refusal}
use Rattle.ieee_vectors.specs.declared.Vector3.{Vector3}
use Rattle.rolling_ball_fillet.specs.Answers.{rotation_answer, derivative_answer}
use Rattle.rolling_ball_fillet.specs.Center.{center_contact_answer}
use Rattle.rolling_ball_fillet.specs.SubDer.{sub_der_mn}
use Rattle.rolling_ball_fillet.specs.PartialAnswer.{vder_info_answer}
use Rattle.rolling_ball_fillet.specs.declared.VderInfo.{VderInfo}
use Rattle.given.specs.Given.{first, order_given, count_given, curve_given, vector_curve_given}
use Rattle.given.specs.Lists.{admitted}
use Rattle.given.specs.Values.{vector_at, to_vector, to_matrix3}
use Rattle.fillet_lists.specs.Records.{circle_of, Listed, circle_with, fillet_of, ders_of, info_of, fillet_given, contacts_given, ders_given}
use Rattle.fillet_lists.specs.Delivery.{Five, deliver_contacts, Three, deliver_info}
use Rattle.derivatives.specs.Answer.{curves}
use Rattle.calculus.specs.JetKind.{jet_of_list}

-- ---- the rotation
abbrev pub orders_given : (x y z n : ℕ) → ℕ
orders_given x y z n = first (order_given x) (first (order_given y) (first (order_given z) (order_given n)))

unfoldable pub rotation_into : (x y z n : ℕ) → (axis : List Float) → (s c : Float) → List Float → ℕ × List Float
rotation_into x y z n axis s c out =
    admitted (first (orders_given x y z n) (first (count_given 3 (length axis)) (count_given 9 (length out)))) out
    (to_matrix3.deliver (rotation_answer x y z n (vector_at axis 0) s c) out)

-- ---- a circle; the parameters of its contact points are zero
unfoldable pub circle_into : ℕ → (circle : List Float) → (s c : Float) → List Float → ℕ × List Float
circle_into n circle s c out =
    admitted (first (order_given n) (first (count_given 13 (length circle)) (count_given 3 (length out)))) out
    (to_vector.deliver (derivative_answer (circle_of circle positive_zero positive_zero positive_zero positive_zero) n s c) out)

unfoldable pub contacts_into : ℕ → (circle feet normals : List Float) → (edge radius surface0 surface1 : Listed) → Five → ℕ × Five
contacts_into n circle feet normals edge radius surface0 surface1 out =
    admitted (first (fillet_given circle feet normals edge radius surface0 surface1)
    (contacts_given n (length out.0) (length out.1.0) (length out.1.1.0) (length out.1.1.1.0) (length out.1.1.1.1))) out
    (deliver_contacts (center_contact_answer (fillet_of normals edge radius surface0 surface1) (circle_with circle feet) n) out)

-- ---- the axis, the angle and its cosine, from these jets and the radius', which with the contacts has one order more than the centre
unfoldable pub vder_info_into : (center contact0 contact1 uv0 uv1 radius : Listed) → Float → Three → ℕ × Three
vder_info_into center contact0 contact1 uv0 uv1 radius t out =
    let n = center.0 in
    admitted (first (ders_given center contact0 contact1 uv0 uv1) (first (curve_given radius.0 (length radius.1))
    (first (vector_curve_given n (length out.0)) (first (curve_given n (length out.1.0)) (count_given 1 (length out.1.1)))))) out
    (deliver_info (vder_info_answer (ders_of center contact0 contact1 uv0 uv1) (jet_of_list curves radius.0 radius.1) t) out)

-- ---- the partials, from these jets, the axis' and the angle's
unfoldable pub partial_into :
    (VderInfo → Result Vector3 Refusal) → (center contact0 contact1 uv0 uv1 axis angle : Listed) → List Float → ℕ × List Float
partial_into op center contact0 contact1 uv0 uv1 axis angle out =
    admitted (first (ders_given center contact0 contact1 uv0 uv1) (first (vector_curve_given axis.0 (length axis.1))
    (first (curve_given angle.0 (length angle.1)) (count_given 3 (length out))))) out
    (to_vector.deliver (op (info_of (ders_of center contact0 contact1 uv0 uv1) axis angle)) out)

-- ---- m times by u and n times by v, from the fillet itself
unfoldable pub sub_der_into : (m n : ℕ) → (circle feet normals : List Float) → (edge radius surface0 surface1 : Listed) → (angle u s c : Float) → List Float → ℕ × List Float
sub_der_into m n circle feet normals edge radius surface0 surface1 angle u s c out =
    admitted (first (fillet_given circle feet normals edge radius surface0 surface1) (first (order_given m) (first (order_given n) (count_given 3 (length out))))) out
    (to_vector.deliver (sub_der_mn (fillet_of normals edge radius surface0 surface1) m n u (circle_with circle feet) angle s c) out)
