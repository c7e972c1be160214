-- Matrices of binary64 floats, in document 01's order of operations ("Vectors"): each operation is rounded. Assumes nothing.
use Rattle.std.specs.Float.Ieee
use Rattle.std.specs.Prelude.{Float}
use Rattle.ieee_vectors.specs.Vectors.{minus, times, over, pair, vector, sum, multiple, quotient, dot, dot2, cross}
use Rattle.ieee_vectors.specs.declared.Vector2.{Vector2}
use Rattle.ieee_vectors.specs.declared.Vector3.{Vector3}
use Rattle.ieee_vectors.specs.declared.Matrix2.{Matrix2}
use Rattle.ieee_vectors.specs.declared.Matrix3.{Matrix3}

-- ---- two by two

-- (a b; c d)
abbrev pub square : Float → Float → Float → Float → Matrix2
square a b c d = record { a = a; b = b; c = c; d = d }

abbrev pub determinant2 : Matrix2 → Float
determinant2 m = minus (times m.a m.d) (times m.b m.c)

-- (d −b; −c a), each over the determinant
abbrev pub inverse2 : Matrix2 → Matrix2
inverse2 m =
    let e = determinant2 m in
    square (over m.d e) (over (Ieee.neg m.b) e) (over (Ieee.neg m.c) e) (over m.a e)

abbrev pub negative2 : Matrix2 → Matrix2
negative2 m = square (Ieee.neg m.a) (Ieee.neg m.b) (Ieee.neg m.c) (Ieee.neg m.d)

-- row dots
abbrev pub image2 : Matrix2 → Vector2 → Vector2
image2 m v = pair (dot2 (pair m.a m.b) v) (dot2 (pair m.c m.d) v)

-- ---- three by three

abbrev pub columns : Vector3 → Vector3 → Vector3 → Matrix3
columns a b c = record { c0 = a; c1 = b; c2 = c }

abbrev pub transposed : Matrix3 → Matrix3
transposed m =
    columns
    (vector m.c0.x m.c1.x m.c2.x)
    (vector m.c0.y m.c1.y m.c2.y)
    (vector m.c0.z m.c1.z m.c2.z)

-- c0 · (c1 × c2)
abbrev pub determinant3 : Matrix3 → Float
determinant3 m = dot m.c0 (cross m.c1 m.c2)

-- the rows c1 × c2, c2 × c0 and c0 × c1, each over the determinant
abbrev pub inverse3 : Matrix3 → Matrix3
inverse3 m =
    let e = determinant3 m in
    transposed (columns (quotient (cross m.c1 m.c2) e) (quotient (cross m.c2 m.c0) e) (quotient (cross m.c0 m.c1) e))

-- row dots
abbrev pub image3 : Matrix3 → Vector3 → Vector3
image3 m v =
    let rows = transposed m in
    vector (dot rows.c0 v) (dot rows.c1 v) (dot rows.c2 v)

abbrev pub sum3 : Matrix3 → Matrix3 → Matrix3
sum3 m n = columns (sum m.c0 n.c0) (sum m.c1 n.c1) (sum m.c2 n.c2)

abbrev pub multiple3 : Matrix3 → Float → Matrix3
multiple3 m s = columns (multiple m.c0 s) (multiple m.c1 s) (multiple m.c2 s)
