-- The fillet's partial derivatives by v, by u and v, and twice by v, from those of its centre, contact point 0, axis and angle along the edge:
-- centre + R(axis, angle·u)·(contact point 0 − centre), by the chain rule. Each operation is rounded in the source's order (`derivative_v`,
-- `derivative_uv`, `derivative_vv`). Assumes nothing.
use Rattle.std.specs.Prelude.{ℕ, zero, suc, ◌+◌, cond, eqb, Float}
use Rattle.ieee_vectors.specs.declared.Vector3.{Vector3}
use Rattle.ieee_vectors.specs.declared.Matrix3.{Matrix3}
use Rattle.ieee_vectors.specs.Vectors.{times, sum}
use Rattle.ieee_vectors.specs.Matrices.{image3, sum3, multiple3}
use Rattle.calculus.specs.InTurn.{in_turn, in_rows}
use Rattle.rodrigues.specs.Rotation.{two, zeros, rotation}

-- ---- the rotation has four parameters: the axis' x, y and z, which are numbered 0, 1 and 2, and the angle, number 3

-- a derivative of each of them: of the axis, and of angle·u
abbrev pub parameter : Vector3 → Float → ℕ → Float
parameter axis angle zero = axis.x
parameter axis angle (suc zero) = axis.y
parameter axis angle (suc (suc zero)) = axis.z
parameter axis angle (suc (suc (suc _))) = angle

-- how often the parameter p is in a derivative by the parameter i
abbrev pub times_in : ℕ → ℕ → ℕ
times_in p i = cond (eqb i p) 1 0

module _ (axis : Vector3) (s c : Float) where
  -- by the parameter i, and by i and j
  abbrev pub by_one : ℕ → Matrix3
  by_one i = rotation (times_in 0 i) (times_in 1 i) (times_in 2 i) (times_in 3 i) axis s c

  abbrev pub by_two : ℕ → ℕ → Matrix3
  by_two i j = rotation (times_in 0 i + times_in 0 j) (times_in 1 i + times_in 1 j) (times_in 2 i + times_in 2 j) (times_in 3 i + times_in 3 j) axis s c

  -- what the parameter i, and the pair of i and j, add to the rotation's derivative, where a and t are those of the axis and of angle·u
  abbrev pub one_term : Vector3 → Float → ℕ → Matrix3
  one_term a t i = multiple3 (by_one i) (parameter a t i)

  abbrev pub two_term : Vector3 → Float → ℕ → ℕ → Matrix3
  two_term a t i j = multiple3 (by_two i j) (times (parameter a t i) (parameter a t j))

  abbrev pub one_terms : Vector3 → Float → Matrix3
  one_terms a t = in_turn sum3 zeros (one_term a t) 4

  abbrev pub two_terms : Vector3 → Float → Matrix3
  two_terms a t = in_rows sum3 zeros (two_term a t) 4 4

  -- ---- the arm and its derivatives are contact point 0 less the centre
  -- by v: (centre' + R'·arm) + R·arm'
  abbrev pub turn_v : (a : Vector3) (t : Float) → Matrix3
  turn_v a t = sum3 (sum3 (sum3 (one_term a t 0) (one_term a t 1)) (one_term a t 2)) (one_term a t 3)

  abbrev pub by_v : (a : Vector3) (t : Float) (center' arm arm' : Vector3) → Vector3
  by_v a t center' arm arm' = sum (sum center' (image3 (turn_v a t) arm)) (image3 (rotation 0 0 0 0 axis s c) arm')

  -- by u and v: (angle·Σ axis'·∂R' + (angle'·R' + ((angle·angle')·u)·R''))·arm + (angle·R')·arm', where R is derived by its angle
  abbrev pub turn_by_axis : (a : Vector3) (angle : Float) → Matrix3
  turn_by_axis a angle = multiple3 (sum3 (sum3 (multiple3 (by_two 0 3) a.x) (multiple3 (by_two 1 3) a.y)) (multiple3 (by_two 2 3) a.z)) angle

  abbrev pub turn_by_angle : (angle angle' u : Float) → Matrix3
  turn_by_angle angle angle' u = sum3 (multiple3 (by_one 3) angle') (multiple3 (by_two 3 3) (times (times angle angle') u))

  abbrev pub by_u_v : (a : Vector3) (angle angle' u : Float) (arm arm' : Vector3) → Vector3
  by_u_v a angle angle' u arm arm' = sum (image3 (sum3 (turn_by_axis a angle) (turn_by_angle angle angle' u)) arm) (image3 (multiple3 (by_one 3) angle) arm')

  -- twice by v: ((centre'' + (Σ parameter''·∂R + Σ parameter'·parameter'·∂∂R)·arm) + (2·R')·arm') + R·arm''
  abbrev pub by_v_v : (a : Vector3) (t : Float) (a' : Vector3) (t' : Float) (center'' arm arm' arm'' : Vector3) → Vector3
  by_v_v a t a' t' center'' arm arm' arm'' =
      let first = sum center'' (image3 (sum3 (one_terms a' t') (two_terms a t)) arm) in
      let second = sum first (image3 (multiple3 (one_terms a t) two) arm') in
      sum second (image3 (rotation 0 0 0 0 axis s c) arm'')
