-- Vectors and matrices all of whose floats are finite. Assumes nothing.
use Rattle.std.specs.Prelude.{Bool, ◌&&◌}
use Rattle.std.specs.Float.Ieee.Scale.{finite}
use Rattle.ieee_vectors.specs.declared.Vector2.{Vector2}
use Rattle.ieee_vectors.specs.declared.Vector3.{Vector3}
use Rattle.ieee_vectors.specs.declared.Matrix2.{Matrix2}
use Rattle.ieee_vectors.specs.declared.Matrix3.{Matrix3}

abbrev pub finite_vector2 : Vector2 → Bool
finite_vector2 v = finite v.x && finite v.y

abbrev pub finite_vector : Vector3 → Bool
finite_vector v = finite v.x && finite v.y && finite v.z

abbrev pub finite_matrix2 : Matrix2 → Bool
finite_matrix2 m = finite m.a && finite m.b && finite m.c && finite m.d

abbrev pub finite_matrix3 : Matrix3 → Bool
finite_matrix3 m = finite_vector m.c0 && finite_vector m.c1 && finite_vector m.c2
