-- The fillet's partial derivatives by v, by u and v, and twice by v, from the jets of its centre, contact point 0, axis and angle along the edge, at a
-- share u of the arc. Assumes nothing.
use Rattle.std.specs.Prelude.{ℕ, Float}
use Rattle.ieee_vectors.specs.declared.Vector3.{Vector3}
use Rattle.ieee_vectors.specs.Vectors.{times}
use Rattle.formulas.specs.Numbers.{curve_numbers}
use Rattle.vector_formulas.specs.Vector.{vector_numbers}
use Rattle.partials.specs.AxisAngle.{arm}
use Rattle.partials.specs.Partials.{by_v, by_u_v, by_v_v}
use Rattle.rolling_ball_fillet.specs.declared.VderInfo.{VderInfo}

-- the entries that are read; s and c are the sine and cosine of angle·u
abbrev pub arm_at : VderInfo → ℕ → Vector3
arm_at i = arm i.cc_ders.contact0_ders.entries i.cc_ders.center_ders.entries

abbrev pub center_at : VderInfo → ℕ → Vector3
center_at i = vector_numbers i.cc_ders.center_ders.entries

abbrev pub axis_at : VderInfo → ℕ → Vector3
axis_at i = vector_numbers i.axis_ders.entries

abbrev pub angle_at : VderInfo → ℕ → Float
angle_at i = curve_numbers i.angle_ders.entries

abbrev pub derivative_v : VderInfo → (u s c : Float) → Vector3
derivative_v i u s c = by_v (axis_at i 0) s c (axis_at i 1) (times (angle_at i 1) u) (center_at i 1) (arm_at i 0) (arm_at i 1)

abbrev pub derivative_u_v : VderInfo → (u s c : Float) → Vector3
derivative_u_v i u s c = by_u_v (axis_at i 0) s c (axis_at i 1) (angle_at i 0) (angle_at i 1) u (arm_at i 0) (arm_at i 1)

abbrev pub derivative_v_v : VderInfo → (u s c : Float) → Vector3
derivative_v_v i u s c =
    by_v_v (axis_at i 0) s c (axis_at i 1) (times (angle_at i 1) u) (axis_at i 2) (times (angle_at i 2) u) (center_at i 2) (arm_at i 0) (arm_at i 1) (arm_at i 2)
