-- How the contact circle's axis and angle move along the edge. The arms p and q lead from the centre to the contact points, r is the radius:
-- the axis is p × q over its length, and the angle θ has p · q = r² cos θ and |p × q| = r² sin θ. Each operation is rounded in the source's
-- order (`cross_ders`, `axis_ders`, `angle_ders`); an entry that is not yet formed is read as zero. Assumes nothing.
use Rattle.std.specs.Prelude.{ℕ, zero, suc, Bool, cond, ◌||◌, List, Float, Result, Ok, Err}
use Rattle.std.specs.Float.Ieee.{lt}
use Rattle.ieee_vectors.specs.declared.Vector3.{Vector3}
use Rattle.ieee_vectors.specs.Vectors.{minus, times, over, quotient, dot, cross, positive_zero}
use Rattle.calculus.specs.Kind.{regular}
use Rattle.calculus.specs.Rising.{rising}
use Rattle.calculus.specs.Array.{curve_array}
use Rattle.calculus.specs.Curve.{product_by, product, difference}
use Rattle.formulas.specs.Real.{real, is_zero}
use Rattle.calculus.specs.Rational.{rational}
use Rattle.vector_formulas.specs.Vector.{vectors, vector_numbers, vector_array, vector_norm}
use Rattle.rodrigues.specs.Rotation.{one, two}
use Rattle.refusals.specs.declared.Refusal.{Refusal}
use Rattle.refusals.specs.declared.Refusal.TheVariants.{DivisionByZero}
use Rattle.partials.specs.declared.AxisAngle.{AxisAngle}

-- ---- the axis
abbrev pub arm : (contact center : List Float) → ℕ → Vector3
arm contact center = difference vectors (vector_numbers contact) (vector_numbers center)

abbrev pub crosses : (p q : ℕ → Vector3) → ℕ → Vector3
crosses p q = product_by vectors cross p q

abbrev pub lengths : (p q : ℕ → Vector3) → ℕ → Float
lengths p q = vector_norm (crosses p q)

abbrev pub axes : (p q : ℕ → Vector3) → ℕ → Vector3
axes p q = rational vectors quotient (crosses p q) (lengths p q)

-- ---- the angle
abbrev pub dots : (p q : ℕ → Vector3) → ℕ → Float
dots p q = product_by (regular real) dot p q

-- r'/r, from r · (r'/r) = r'
abbrev pub rate_entry : (r : ℕ → Float) → (ℕ → Float) → ℕ → Float
rate_entry r q zero = over (r 1) (r 0)
rate_entry r q (suc m) = over (minus (r (suc (suc m))) (product real r q (suc m))) (r 0)

abbrev pub rates : (r : ℕ → Float) → ℕ → Float
rates r = rising positive_zero (rate_entry r)

-- θ', from |p × q| · θ' = 2 · (r'/r) · (p · q) − (p · q)'
abbrev pub turn_entry : (rate dot length : ℕ → Float) → (ℕ → Float) → ℕ → Float
turn_entry rate dot length q m = over (minus (minus (times two (product real rate dot m)) (dot (suc m))) (product real q length m)) (length 0)

abbrev pub turns : (rate dot length : ℕ → Float) → ℕ → Float
turns rate dot length = rising positive_zero (turn_entry rate dot length)

abbrev pub angles : Float → (ℕ → Float) → ℕ → Float
angles angle turn zero = angle
angles angle turn (suc m) = turn m

-- the cosine of θ, clamped from above; a NaN becomes 1.0
abbrev pub clamped : Float → Float
clamped x = cond (lt x one) x one

abbrev pub cosine : Vector3 → Vector3 → Float → Float
cosine p q r = clamped (over (dot p q) (times r r))

-- ---- both up to the order n, from the arrays of the centre and the contact points; or refused

-- a division by zero is due: by the length of p × q, by the radius, or by its square, which may underflow
abbrev pub division_by_zero : (length r : Float) → Bool
division_by_zero length r = is_zero length || is_zero r || is_zero (times r r)

abbrev pub some_axis_angle : (p q : ℕ → Vector3) (r : ℕ → Float) → Float → ℕ → AxisAngle
some_axis_angle p q r angle n = record {
  axis = vector_array (axes p q) n;
  angle = curve_array positive_zero (angles angle (turns (rates r) (dots p q) (lengths p q))) n;
  cosine = cosine (p 0) (q 0) (r 0);
}

abbrev pub axis_angle : (center contact0 contact1 : List Float) (r : ℕ → Float) → Float → ℕ → Result AxisAngle Refusal
axis_angle center contact0 contact1 r angle n =
    let p = arm contact0 center in
    let q = arm contact1 center in
    cond (division_by_zero (lengths p q 0) (r 0)) (Err DivisionByZero) (Ok (some_axis_angle p q r angle n))
