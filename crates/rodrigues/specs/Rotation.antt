-- Rodrigues' rotation and its partial derivatives at floats: the formulas of specs/Rodrigues.antt, each operation rounded. Assumes nothing.
use Rattle.std.specs.Prelude.{ℕ, Float}
use Rattle.std.specs.Float.{binary64}
use Rattle.std.specs.Float.Ieee.{neg, of_bits}
use Rattle.ieee_vectors.specs.Vectors.{plus, minus, times, vector, positive_zero}
use Rattle.ieee_vectors.specs.Matrices.{columns}
use Rattle.ieee_vectors.specs.declared.Vector3.{Vector3}
use Rattle.ieee_vectors.specs.declared.Matrix3.{Matrix3}
use Rattle.rodrigues.specs.declared.Pair.{Pair}
use Rattle.rodrigues.specs.Rodrigues
use Rattle.rodrigues.specs.Rodrigues.{Arithmetic, Three, Nine, three}

-- 1.0 and 2.0
abbrev pub one : Float
one = of_bits binary64 0x3FF0_0000_0000_0000

abbrev pub two : Float
two = of_bits binary64 0x4000_0000_0000_0000

abbrev pub floats : Arithmetic Float
floats = record { zero = positive_zero; one = one; two = two; plus = plus; minus = minus; times = times; negated = neg }

-- the code's records
abbrev pub pair_of : Float → Float → Pair
pair_of s c = record { s = s; c = c }

abbrev pub three_of : Vector3 → Three Float
three_of v = three v.x v.y v.z

abbrev pub vector_of : Three Float → Vector3
vector_of t = vector t.x t.y t.z

abbrev pub matrix_of : Nine Float → Matrix3
matrix_of m = columns (vector_of m.c0) (vector_of m.c1) (vector_of m.c2)

-- n quarter turns on
abbrev pub turned : ℕ → Float → Float → Pair
turned n s c = let p = Rodrigues.turned floats n s c in pair_of p.s p.c

abbrev pub zeros : Matrix3
zeros = matrix_of (Rodrigues.zeros floats)

abbrev pub by_axis : (x y z : ℕ) → Vector3 → (s c k : Float) → Matrix3
by_axis x y z a s c k = matrix_of (Rodrigues.by_axis floats x y z (three_of a) s c k)

abbrev pub constant : ℕ → Float
constant = Rodrigues.constant floats

-- x, y and z times by the axis' components and n times by the angle
abbrev pub rotation : (x y z n : ℕ) → Vector3 → (s c : Float) → Matrix3
rotation x y z n a s c = matrix_of (Rodrigues.rotation floats x y z n (three_of a) s c)
