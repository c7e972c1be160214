-- The fillet's records, of lists. Assumes nothing.
use Rattle.std.specs.Prelude.{cond, List, ℕ, ◌+◌, ltb, length, get_or, Float}
use Rattle.std.specs.Float.{nan}
use Rattle.ieee_vectors.specs.declared.Vector3.{Vector3}
use Rattle.derivatives.specs.declared.CurveDerivatives.{CurveDerivatives}
use Rattle.vector_derivatives.specs.declared.VectorCurveDerivatives.{VectorCurveDerivatives}
use Rattle.vector_derivatives.specs.declared.VectorSurfaceDerivatives.{VectorSurfaceDerivatives}
use Rattle.rolling_ball_fillet.specs.declared.ContactPoint.{ContactPoint}
use Rattle.rolling_ball_fillet.specs.declared.ContactCircle.{ContactCircle}
use Rattle.rolling_ball_fillet.specs.declared.RollingBallFilletSurface.{RollingBallFilletSurface}
use Rattle.rolling_ball_fillet.specs.declared.CenterContactDers.{CenterContactDers}
use Rattle.rolling_ball_fillet.specs.declared.VderInfo.{VderInfo}
use Rattle.given.specs.Given.{first, count_given, curve_given, parameter_given, vector_curve_given, vector_surface_given}
use Rattle.given.specs.Values.{vector_at}
use Rattle.vector_derivatives.specs.Answer.{vector_curves, vector_surfaces}
use Rattle.derivatives.specs.Answer.{parameters, curves}
use Rattle.calculus.specs.JetKind.{jet_of_list}

-- ---- a circle: centre, axis, angle, contact point 0, contact point 1; the parameters of the contact points stand apart
abbrev pub contact_of : Vector3 → (u v : Float) → ContactPoint
contact_of p u v = record { point = p; uv = record { x = u; y = v } }

abbrev pub circle_of : List Float → (u0 v0 u1 v1 : Float) → ContactCircle
circle_of l u0 v0 u1 v1 =
    record {
      center = vector_at l 0;
      axis = vector_at l 3;
      angle = get_or l 6 nan;
      contact_point0 = contact_of (vector_at l 7) u0 v0;
      contact_point1 = contact_of (vector_at l 10) u1 v1;
    }

-- ---- jets, each an order and a list
abbrev pub Listed : Type 0
Listed = ℕ × List Float

-- ---- a fillet: a circle with the parameters of its contact points (feet), the jets, and both normals
abbrev pub circle_with : (circle feet : List Float) → ContactCircle
circle_with circle feet = circle_of circle (get_or feet 0 nan) (get_or feet 1 nan) (get_or feet 2 nan) (get_or feet 3 nan)

abbrev pub fillet_with : VectorCurveDerivatives → CurveDerivatives → (surface0 surface1 : VectorSurfaceDerivatives) → (normals : List Float) → RollingBallFilletSurface
fillet_with e r p q l =
    record {
      edge_curve = e;
      surface0 = p;
      surface1 = q;
      radius = r;
      normal0 = vector_at l 0;
      normal1 = vector_at l 3;
    }

abbrev pub fillet_of : (normals : List Float) → (edge radius surface0 surface1 : Listed) → RollingBallFilletSurface
fillet_of normals edge radius surface0 surface1 =
    fillet_with (jet_of_list vector_curves edge.0 edge.1) (jet_of_list curves radius.0 radius.1) (jet_of_list vector_surfaces surface0.0 surface0.1)
    (jet_of_list vector_surfaces surface1.0 surface1.1) normals

-- ---- the jets of the centre, the contacts and their parameters along the edge
abbrev pub ders_of : (center contact0 contact1 uv0 uv1 : Listed) → CenterContactDers
ders_of center contact0 contact1 uv0 uv1 =
    record {
      center_ders = jet_of_list vector_curves center.0 center.1;
      contact0_ders = jet_of_list vector_curves contact0.0 contact0.1;
      contact1_ders = jet_of_list vector_curves contact1.0 contact1.1;
      uv0_ders = jet_of_list parameters uv0.0 uv0.1;
      uv1_ders = jet_of_list parameters uv1.0 uv1.1;
    }

-- these, with the axis' and the angle's
abbrev pub info_of : CenterContactDers → (axis angle : Listed) → VderInfo
info_of d axis angle = record { cc_ders = d; axis_ders = jet_of_list vector_curves axis.0 axis.1; angle_ders = jet_of_list curves angle.0 angle.1 }

-- ---- the tests of what is handed over: of a fillet: a circle, the parameters of its contact points (feet), both normals, and the jets
abbrev pub fillet_given : (circle feet normals : List Float) → (edge radius surface0 surface1 : Listed) → ℕ
fillet_given circle feet normals edge radius surface0 surface1 =
    first (count_given 13 (length circle)) (first (count_given 4 (length feet)) (first (count_given 6 (length normals))
    (first (vector_curve_given edge.0 (length edge.1)) (first (curve_given radius.0 (length radius.1))
    (first (vector_surface_given surface0.0 (length surface0.1)) (vector_surface_given surface1.0 (length surface1.1)))))))

-- ---- the centre, the contacts and their parameters along the edge, by orders and lengths: the centre's order ends at 19, as the others have one more
abbrev pub five_given : (n center a contact0 b contact1 c uv0 d uv1 : ℕ) → ℕ
five_given n center a contact0 b contact1 c uv0 d uv1 =
    cond (ltb 19 n) 1
    (first (vector_curve_given n center) (first (vector_curve_given a contact0) (first (vector_curve_given b contact1) (first (parameter_given c uv0) (parameter_given d uv1)))))

-- lent, for the centre at the order n
abbrev pub contacts_given : ℕ → (center contact0 contact1 uv0 uv1 : ℕ) → ℕ
contacts_given n center contact0 contact1 uv0 uv1 = let k = n + 1 in five_given n center k contact0 k contact1 k uv0 k uv1

-- ---- these five jets, handed over
abbrev pub ders_given : (center contact0 contact1 uv0 uv1 : Listed) → ℕ
ders_given center contact0 contact1 uv0 uv1 =
    five_given center.0 (length center.1) contact0.0 (length contact0.1) contact1.0 (length contact1.1)
    uv0.0 (length uv0.1) uv1.0 (length uv1.1)
