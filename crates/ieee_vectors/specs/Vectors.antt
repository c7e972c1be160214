-- Vectors of binary64 floats, in document 01's order of operations ("Vectors"): each operation is rounded. Assumes nothing.
use Rattle.std.specs.Float.Ieee
use Rattle.std.specs.Prelude.{Float}
use Rattle.std.specs.Float.{binary64}
use Rattle.std.specs.Float.Ieee.{of_bits}
use Rattle.ieee.specs.SquareRoot.{square_root}
use Rattle.ieee_vectors.specs.declared.Vector2.{Vector2}
use Rattle.ieee_vectors.specs.declared.Vector3.{Vector3}

-- +0; a float equals it where it is either zero
abbrev pub positive_zero : Float
positive_zero = of_bits binary64 0

abbrev pub plus : Float → Float → Float
plus = Ieee.add binary64

abbrev pub minus : Float → Float → Float
minus = Ieee.sub binary64

abbrev pub times : Float → Float → Float
times = Ieee.mul binary64

abbrev pub over : Float → Float → Float
over = Ieee.div binary64

abbrev pub pair : Float → Float → Vector2
pair x y = record { x = x; y = y }

abbrev pub vector : Float → Float → Float → Vector3
vector x y z = record { x = x; y = y; z = z }

abbrev pub sum : Vector3 → Vector3 → Vector3
sum a b = vector (plus a.x b.x) (plus a.y b.y) (plus a.z b.z)

abbrev pub difference : Vector3 → Vector3 → Vector3
difference a b = vector (minus a.x b.x) (minus a.y b.y) (minus a.z b.z)

abbrev pub negative : Vector3 → Vector3
negative a = vector (Ieee.neg a.x) (Ieee.neg a.y) (Ieee.neg a.z)

abbrev pub multiple : Vector3 → Float → Vector3
multiple a s = vector (times a.x s) (times a.y s) (times a.z s)

abbrev pub quotient : Vector3 → Float → Vector3
quotient a s = vector (over a.x s) (over a.y s) (over a.z s)

-- x, y and z are added in turn
abbrev pub dot : Vector3 → Vector3 → Float
dot a b = plus (plus (times a.x b.x) (times a.y b.y)) (times a.z b.z)

abbrev pub dot2 : Vector2 → Vector2 → Float
dot2 a b = plus (times a.x b.x) (times a.y b.y)

abbrev pub cross : Vector3 → Vector3 → Vector3
cross a b =
    vector
    (minus (times a.y b.z) (times a.z b.y))
    (minus (times a.z b.x) (times a.x b.z))
    (minus (times a.x b.y) (times a.y b.x))

abbrev pub magnitude : Vector3 → Float
magnitude a = square_root (dot a a)
