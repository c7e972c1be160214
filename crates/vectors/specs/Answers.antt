-- What the functions of this crate return: a value where it can be had, or document 01's refusal. Checked as 5, then 6 or 7, then 10.
-- Assumes nothing.
use Rattle.std.specs.Prelude.{Bool, cond, Float, Result, Ok, Err}
use Rattle.std.specs.Float.Ieee.{eq}
use Rattle.std.specs.Float.Ieee.Scale.{finite}
use Rattle.refusals.specs.declared.Refusal.{Refusal}
use Rattle.refusals.specs.declared.Refusal.TheVariants.{InputNotFinite, ZeroDeterminant, DivisionByZero, AnswerNotFinite}
use Rattle.ieee.specs.SquareRoot.{square_root}
use Rattle.ieee_vectors.specs.Vectors.{positive_zero, quotient}
use Rattle.ieee_vectors.specs.Matrices.{determinant2, inverse2, determinant3, inverse3}
use Rattle.ieee_vectors.specs.Finite.{finite_vector2, finite_vector, finite_matrix2, finite_matrix3}
use Rattle.ieee_vectors.specs.declared.Vector2.{Vector2}
use Rattle.ieee_vectors.specs.declared.Vector3.{Vector3}
use Rattle.ieee_vectors.specs.declared.Matrix2.{Matrix2}
use Rattle.ieee_vectors.specs.declared.Matrix3.{Matrix3}

-- ---- what can be tested, by its test
module _ {A : Type 0} (test : A → Bool) where
  -- to be returned: 10 where it is not finite
  abbrev pub answered : A → Result A Refusal
  answered y = cond (test y) (Ok y) (Err AnswerNotFinite)

  -- from inputs that are all finite, or not: 5 where they are not
  abbrev pub answered_from : Bool → A → Result A Refusal
  answered_from inputs y = cond inputs (answered y) (Err InputNotFinite)

  -- over a divisor: the refusal r where that is zero
  abbrev pub divided_from : Bool → Float → Refusal → A → Result A Refusal
  divided_from inputs d r y = cond inputs (cond (eq d positive_zero) (Err r) (answered y)) (Err InputNotFinite)

-- ---- a float
abbrev pub returned : Float → Result Float Refusal
returned = answered finite

abbrev pub real_from : Bool → Float → Result Float Refusal
real_from = answered_from finite

-- 10 is the answer to a negative number
abbrev pub root_answer : Float → Result Float Refusal
root_answer x = real_from (finite x) (square_root x)

-- ---- a vector
abbrev pub returned_vector : Vector3 → Result Vector3 Refusal
returned_vector = answered finite_vector

abbrev pub vector_from : Bool → Vector3 → Result Vector3 Refusal
vector_from = answered_from finite_vector

abbrev pub quotient_from : Bool → Vector3 → Float → Result Vector3 Refusal
quotient_from inputs a s = divided_from finite_vector inputs s DivisionByZero (quotient a s)

-- of two floats
abbrev pub vector2_from : Bool → Vector2 → Result Vector2 Refusal
vector2_from = answered_from finite_vector2

-- ---- a matrix
abbrev pub inverse_answer2 : Matrix2 → Result Matrix2 Refusal
inverse_answer2 m = divided_from finite_matrix2 (finite_matrix2 m) (determinant2 m) ZeroDeterminant (inverse2 m)

abbrev pub returned3 : Matrix3 → Result Matrix3 Refusal
returned3 = answered finite_matrix3

abbrev pub inverse_answer3 : Matrix3 → Result Matrix3 Refusal
inverse_answer3 m = divided_from finite_matrix3 (finite_matrix3 m) (determinant3 m) ZeroDeterminant (inverse3 m)
