-- What is known of one surface along the edge (the source's `SurfaceInfo`): its first entries, and the step that forms those of one order more
-- (`routine`). Each operation is rounded in the source's order. An entry that is not formed yet is zero. Assumes nothing.
use Rattle.std.specs.Prelude.{List, ℕ, ◌-◌, set, replicate, Float}
use Rattle.ieee_vectors.specs.Vectors.{plus, minus, over, pair, quotient, dot, cross, magnitude, positive_zero}
use Rattle.ieee_vectors.specs.Matrices.{square, inverse2, negative2, image2}
use Rattle.ieee_vectors.specs.declared.Vector2.{Vector2}
use Rattle.ieee_vectors.specs.declared.Vector3.{Vector3}
use Rattle.ieee_vectors.specs.declared.Matrix2.{Matrix2}
use Rattle.calculus.specs.Kind.{regular}
use Rattle.calculus.specs.Curve.{derivative, difference, product, product_by}
use Rattle.calculus.specs.Surface.{derivative_u, derivative_v}
use Rattle.calculus.specs.Carry.{composite_derivative}
use Rattle.formulas.specs.Real.{real}
use Rattle.calculus.specs.Rational.{rational}
use Rattle.formulas.specs.Numbers.{curve_numbers}
use Rattle.vector_formulas.specs.Vector.{vectors, vector_numbers, stored}
use Rattle.surface_info.specs.declared.Parameters.{Parameters}
use Rattle.surface_info.specs.declared.Carried.{Carried}
use Rattle.surface_info.specs.declared.Normal.{Normal}
use Rattle.surface_info.specs.declared.SurfaceInfo.{SurfaceInfo}

-- ---- an array with entry 0, and zeros past it
abbrev pub first_only : Vector3 → List Float
first_only e = stored (replicate 63 positive_zero) 0 e

abbrev pub first_number_only : Float → List Float
first_number_only x = set (replicate 21 positive_zero) 0 x

-- ---- the entries of order 0, from the surface, the contact point's parameters and the surface's normal there
unfoldable pub initial : (ℕ → ℕ → Vector3) → Vector2 → Vector3 → SurfaceInfo
initial s foot normal =
    let c = cross (s 1 0) (s 0 1) in
    record {
      uv = record { u = first_number_only foot.x; v = first_number_only foot.y };
      carried = record { point = first_only (s 0 0); du = first_only (s 1 0); dv = first_only (s 0 1) };
      normal = record { cross = first_only c; norm = first_number_only (magnitude c); unit = first_only normal };
    }

-- ---- the parameters of order m: both derivatives of the surface are at right angles to the offset of the contact point from the centre

-- a surface carried along the parameters
abbrev pub along : Parameters → (ℕ → ℕ → Vector3) → ℕ → Vector3
along p s m = composite_derivative vectors (curve_numbers p.u) (curve_numbers p.v) s m

abbrev pub offset : (center point : List Float) → ℕ → Vector3
offset center point = difference vectors (vector_numbers point) (vector_numbers center)

-- what the known entries give at the order m, for the surface s, its derivative ds by a parameter, and that derivative d along the edge
abbrev pub known : (ℕ → ℕ → Vector3) → (ℕ → ℕ → Vector3) → (ℕ → Vector3) → List Float → SurfaceInfo → ℕ → Float
known s ds d center a m =
    let e = offset center a.carried.point in
    plus (product_by (regular real) dot d e m) (plus (dot (d 0) (along a.uv s m)) (dot (along a.uv ds m) (e 0)))

-- the matrix of what is not known: the first fundamental form, and the second derivatives along the offset e
abbrev pub form : (ℕ → ℕ → Vector3) → Vector3 → Matrix2
form s e =
    let uu = plus (dot (s 1 0) (s 1 0)) (dot (s 2 0) e) in
    let uv = plus (dot (s 1 0) (s 0 1)) (dot (s 1 1) e) in
    let vv = plus (dot (s 0 1) (s 0 1)) (dot (s 0 2) e) in
    square uu uv uv vv

unfoldable pub parameters : (ℕ → ℕ → Vector3) → List Float → SurfaceInfo → ℕ → Vector2
parameters s center a m =
    image2 (negative2 (inverse2 (form s (offset center a.carried.point 0))))
    (pair (known s (derivative_u s) (vector_numbers a.carried.du) center a m) (known s (derivative_v s) (vector_numbers a.carried.dv) center a m))

unfoldable pub next_parameters : (ℕ → ℕ → Vector3) → List Float → SurfaceInfo → ℕ → Parameters
next_parameters s center a m =
    let p = parameters s center a m in
    record { u = set a.uv.u m p.x; v = set a.uv.v m p.y }

-- ---- the contact point and the surface's derivatives there
unfoldable pub next_carried : (ℕ → ℕ → Vector3) → Parameters → Carried → ℕ → Carried
next_carried s p a m = record {
  point = stored a.point m (along p s m);
  du = stored a.du m (along p (derivative_u s) m);
  dv = stored a.dv m (along p (derivative_v s) m);
}

-- ---- the normal: the cross product of the derivatives, its norm from |c| |c|' = c · c', and their quotient
abbrev pub next_cross : Carried → List Float → ℕ → List Float
next_cross a cross' m = stored cross' m (product_by vectors cross (vector_numbers a.du) (vector_numbers a.dv) m)

abbrev pub next_norm : (cross' norm : List Float) → ℕ → List Float
next_norm cross' norm m =
    let c = vector_numbers cross' in
    let e = curve_numbers norm in
    set norm m (over (minus (product_by (regular real) dot (derivative c) c (m - 1)) (product real (derivative e) e (m - 1))) (e 0))

unfoldable pub next_normal : Carried → Normal → ℕ → Normal
next_normal c a m =
    let x = next_cross c a.cross m in
    let e = next_norm x a.norm m in
    record { cross = x; norm = e; unit = stored a.unit m (rational vectors quotient (vector_numbers x) (curve_numbers e) m) }

-- ---- all entries of the order m, from the centre up to the order m
unfoldable pub routine : (ℕ → ℕ → Vector3) → List Float → SurfaceInfo → ℕ → SurfaceInfo
routine s center a m =
    let p = next_parameters s center a m in
    let c = next_carried s p a.carried m in
    record { uv = p; carried = c; normal = next_normal c a.normal m }
