-- Vectors of three floats as the entries of a jet, and the arrays that hold them: three floats an entry, side by side. Assumes nothing.
use Rattle.std.specs.Prelude.{Bool, cond, List, [], ◌∷◌, ℕ, suc, ◌+◌, ◌*◌, ltb, length, get_or, set, Float}
use Rattle.std.specs.Float.{nan}
use Rattle.ieee_vectors.specs.declared.Vector3.{Vector3}
use Rattle.ieee.specs.SquareRoot.{square_root}
use Rattle.ieee_vectors.specs.Vectors.{vector, sum, difference, multiple, dot, positive_zero}
use Rattle.ieee_vectors.specs.Finite.{finite_vector}
use Rattle.calculus.specs.Kind.{Module}
use Rattle.calculus.specs.Norm.{norm}
use Rattle.calculus.specs.Graded.{triangle, index, graded}
use Rattle.calculus.specs.Array.{curve_array, surface_array}
use Rattle.formulas.specs.Real.{real}
use Rattle.formulas.specs.Numbers.{all_pass}

abbrev pub origin : Vector3
origin = vector positive_zero positive_zero positive_zero

-- component by component, each rounded
abbrev pub vectors : Module Float Vector3
vectors = record { scalars = real; zero = origin; plus = sum; minus = difference; scale = multiple }

-- ---- the entries of an array as a jet. No formula reads past the array's end, where the logic has a NaN
abbrev pub vector_numbers : List Float → ℕ → Vector3
vector_numbers l k = vector (get_or l (3 * k) nan) (get_or l (3 * k + 1) nan) (get_or l (3 * k + 2) nan)

abbrev pub vector_surface_numbers : List Float → ℕ → ℕ → Vector3
vector_surface_numbers l i j = vector_numbers l (index i j)

-- a vector stored at i, i + 1 and i + 2
abbrev pub put : List Float → ℕ → Vector3 → List Float
put l i v = set (set (set l i v.x) (i + 1) v.y) (i + 2) v.z

-- one stored as the entry k, where the array has that entry
abbrev pub stored : List Float → ℕ → Vector3 → List Float
stored l k v = cond (ltb (3 * k + 2) (length l)) (put l (3 * k) v) l

-- ---- the array of vectors: x, y and z of each in turn
unfoldable pub flat : List Vector3 → List Float
flat [] = []
flat (a ∷ l) = a.x ∷ a.y ∷ a.z ∷ flat l

-- with zeros past the order n
abbrev pub vector_array : (ℕ → Vector3) → ℕ → List Float
vector_array a n = flat (curve_array origin a n)

abbrev pub vector_surface_array : (ℕ → ℕ → Vector3) → ℕ → List Float
vector_surface_array s n = flat (surface_array origin s n)

-- ---- whether the first n vectors are finite, and the entries up to the order n
abbrev pub all_vectors_finite : (ℕ → Vector3) → ℕ → Bool
all_vectors_finite = all_pass finite_vector

abbrev pub finite_vector_curve : (ℕ → Vector3) → ℕ → Bool
finite_vector_curve a n = all_vectors_finite a (suc n)

abbrev pub finite_vector_surface : (ℕ → ℕ → Vector3) → ℕ → Bool
finite_vector_surface s n = all_vectors_finite (graded s) (triangle (suc n))

-- ---- the norm of a curve
abbrev pub vector_norm : (ℕ → Vector3) → ℕ → Float
vector_norm = norm real square_root dot
