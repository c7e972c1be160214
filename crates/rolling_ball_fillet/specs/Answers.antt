-- What the public functions return: the values, or document 01's refusal. Checked as 1, 5, then 10. Assumes nothing.
use Rattle.std.specs.Prelude.{ℕ, Bool, ◌&&◌, cond, leb, Float, Result, Err}
use Rattle.std.specs.Float.Ieee.Scale.{finite}
use Rattle.ieee_vectors.specs.Finite.{finite_vector}
use Rattle.vectors.specs.Answers.{vector_from, returned3}
use Rattle.ieee_vectors.specs.declared.Vector3.{Vector3}
use Rattle.ieee_vectors.specs.declared.Matrix3.{Matrix3}
use Rattle.refusals.specs.declared.Refusal.{Refusal}
use Rattle.refusals.specs.declared.Refusal.TheVariants.{OrderAbove20, InputNotFinite}
use Rattle.rodrigues.specs.Rotation.{rotation}
use Rattle.rodrigues.specs.Circle.{derivative as along}
use Rattle.rolling_ball_fillet.specs.declared.ContactPoint.{ContactPoint}
use Rattle.rolling_ball_fillet.specs.declared.ContactCircle.{ContactCircle}

-- ---- a rotation
abbrev pub served_orders : (x y z n : ℕ) → Bool
served_orders x y z n = leb x 20 && leb y 20 && leb z 20 && leb n 20

abbrev pub finite_turn : Vector3 → (s c : Float) → Bool
finite_turn a s c = finite_vector a && finite s && finite c

abbrev pub rotation_answer : (x y z n : ℕ) → Vector3 → (s c : Float) → Result Matrix3 Refusal
rotation_answer x y z n a s c = cond (served_orders x y z n) (cond (finite_turn a s c) (returned3 (rotation x y z n a s c)) (Err InputNotFinite)) (Err OrderAbove20)

-- ---- a circle
abbrev pub finite_contact : ContactPoint → Bool
finite_contact p = finite_vector p.point && finite p.uv.x && finite p.uv.y

abbrev pub finite_circle : ContactCircle → Bool
finite_circle o = finite_vector o.center && finite_vector o.axis && finite o.angle && finite_contact o.contact_point0 && finite_contact o.contact_point1

-- along its arc, from contact point 0
abbrev pub derivative : ContactCircle → ℕ → (s c : Float) → Vector3
derivative o m s c = along o.center o.axis o.angle o.contact_point0.point m s c

abbrev pub derivative_answer : ContactCircle → ℕ → (s c : Float) → Result Vector3 Refusal
derivative_answer o m s c = cond (leb m 20) (vector_from (finite_circle o && finite s && finite c) (derivative o m s c)) (Err OrderAbove20)
