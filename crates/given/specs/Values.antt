-- Single values as lists: a whole number, a count, a float, vectors and matrices. They have no order: each is a jet of the order 0. A value goes into the list lent,
-- beside 0; a refusal leaves that list as it was, beside its number. Assumes nothing.
use Rattle.std.specs.Prelude.{cond, List, [], ◌∷◌, ℕ, ◌+◌, eqb, ℤ, length, get_or, Float, Result, Ok, Err}
use Rattle.std.specs.Float.{nan}
use Rattle.refusals.specs.declared.Refusal.{Refusal}
use Rattle.refusals.specs.Number.{number}
use Rattle.ieee_vectors.specs.Vectors.{pair, vector}
use Rattle.ieee_vectors.specs.Matrices.{square, columns}
use Rattle.ieee_vectors.specs.declared.Vector2.{Vector2}
use Rattle.ieee_vectors.specs.declared.Vector3.{Vector3}
use Rattle.ieee_vectors.specs.declared.Matrix2.{Matrix2}
use Rattle.ieee_vectors.specs.declared.Matrix3.{Matrix3}
use Rattle.given.specs.Given.{count_given}
use Rattle.given.specs.Lists.{Input, Output}

-- ---- numbers into a list of just so many, which else is refused 2
abbrev pub written : {X : Type 0} → List X → List X → ℕ × List X
written l out = cond (eqb (length out) (length l)) (0, l) (2, out)

-- an answer, by the numbers of a value
abbrev pub deliver_value : {X A : Type 0} → (A → List X) → Result A Refusal → List X → ℕ × List X
deliver_value numbers (Ok a) out = written (numbers a) out
deliver_value numbers (Err r) out = (number r, out)

-- ---- a vector: x y, and x y z from the place i of a list on; a matrix (a b; c d), and one of three columns, column after column
abbrev pub vector2_of : List Float → Vector2
vector2_of l = pair (get_or l 0 nan) (get_or l 1 nan)

abbrev pub vector_at : List Float → ℕ → Vector3
vector_at l i = vector (get_or l i nan) (get_or l (i + 1) nan) (get_or l (i + 2) nan)

abbrev pub matrix2_of : List Float → Matrix2
matrix2_of l = square (get_or l 0 nan) (get_or l 1 nan) (get_or l 2 nan) (get_or l 3 nan)

abbrev pub matrix3_of : List Float → Matrix3
matrix3_of l = columns (vector_at l 0) (vector_at l 3) (vector_at l 6)

abbrev pub vector2_numbers : Vector2 → List Float
vector2_numbers v = v.x ∷ v.y ∷ []

abbrev pub vector_numbers : Vector3 → List Float
vector_numbers v = v.x ∷ v.y ∷ v.z ∷ []

abbrev pub matrix2_numbers : Matrix2 → List Float
matrix2_numbers m = m.a ∷ m.b ∷ m.c ∷ m.d ∷ []

abbrev pub matrix3_numbers : Matrix3 → List Float
matrix3_numbers m = m.c0.x ∷ m.c0.y ∷ m.c0.z ∷ m.c1.x ∷ m.c1.y ∷ m.c1.z ∷ m.c2.x ∷ m.c2.y ∷ m.c2.z ∷ []

-- ---- what is read off a list
abbrev pub a_vector2 : Input Float Vector2
a_vector2 = record { test = λ n. count_given 2; jet = λ n. vector2_of }

abbrev pub a_vector : Input Float Vector3
a_vector = record { test = λ n. count_given 3; jet = λ n l. vector_at l 0 }

abbrev pub a_matrix2 : Input Float Matrix2
a_matrix2 = record { test = λ n. count_given 4; jet = λ n. matrix2_of }

abbrev pub a_matrix3 : Input Float Matrix3
a_matrix3 = record { test = λ n. count_given 9; jet = λ n. matrix3_of }

-- ---- what goes into one, whatever the order
abbrev pub to_whole : Output ℤ (Result ℤ Refusal)
to_whole = record { test = λ n. count_given 1; deliver = deliver_value (λ z. z ∷ []) }

abbrev pub to_count : Output ℕ (Result ℕ Refusal)
to_count = record { test = λ n. count_given 1; deliver = deliver_value (λ n. n ∷ []) }

abbrev pub to_float : Output Float (Result Float Refusal)
to_float = record { test = λ n. count_given 1; deliver = deliver_value (λ x. x ∷ []) }

abbrev pub to_vector2 : Output Float (Result Vector2 Refusal)
to_vector2 = record { test = λ n. count_given 2; deliver = deliver_value vector2_numbers }

abbrev pub to_vector : Output Float (Result Vector3 Refusal)
to_vector = record { test = λ n. count_given 3; deliver = deliver_value vector_numbers }

abbrev pub to_matrix2 : Output Float (Result Matrix2 Refusal)
to_matrix2 = record { test = λ n. count_given 4; deliver = deliver_value matrix2_numbers }

abbrev pub to_matrix3 : Output Float (Result Matrix3 Refusal)
to_matrix3 = record { test = λ n. count_given 9; deliver = deliver_value matrix3_numbers }
