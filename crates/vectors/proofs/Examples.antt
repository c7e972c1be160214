-- The definitions at some values, computed, and a small input for each refusal. Assumes nothing.
use Rattle.std.proofs.Common.{◌≡◌, refl, true, false}
use lib.Ieee
use lib.Ieee.{nan, inf, binary64, of_bits, add, sub, mul, div, eq}
use Rattle.ieee.specs.SquareRoot.{square_root}
use Rattle.ieee_vectors.specs.Vectors.{vector, multiple, cross, magnitude, positive_zero}
use Rattle.ieee_vectors.specs.Matrices.{square, columns, inverse2, inverse3, image3}
use Rattle.vectors.specs.Answers.{vector_from, quotient_from, inverse_answer2, inverse_answer3, root_answer}
use Rattle.ieee_vectors.specs.Finite.{finite_vector}
use Rattle.ieee_vectors.specs.declared.Matrix3.{Matrix3}
use Rattle.std.specs.Prelude.{Err}
use Rattle.refusals.specs.declared.Refusal.TheVariants.{InputNotFinite, ZeroDeterminant, DivisionByZero, AnswerNotFinite}
use Rattle.ieee_vectors.proofs.Floats.{one, two, three, four, five, huge}

pub magnitude-3-4-0 : magnitude (vector three four positive_zero) ≡ five
unfolding square_root add mul of_bits
magnitude-3-4-0 = refl

-- x × y is z
pub cross-x-y : cross (vector one positive_zero positive_zero) (vector positive_zero one positive_zero) ≡ vector positive_zero positive_zero one
unfolding sub mul of_bits
cross-x-y = refl

abbrev doubling : Matrix3
doubling = columns (vector two positive_zero positive_zero) (vector positive_zero two positive_zero) (vector positive_zero positive_zero two)

pub inverse-of-doubling : image3 (inverse3 doubling) (vector two four positive_zero) ≡ vector one two positive_zero
unfolding add sub mul div of_bits
inverse-of-doubling = refl

-- (1 2; 3 4) has the determinant −2
pub inverse-2 : inverse2 (square one two three four) ≡ square (of_bits binary64 0xC000_0000_0000_0000) one (of_bits binary64 0x3FF8_0000_0000_0000) (of_bits binary64 0xBFE0_0000_0000_0000)
unfolding Ieee.neg sub mul div of_bits
inverse-2 = refl

-- ---- refusals
pub not_finite : vector_from (finite_vector (vector nan one one)) (vector one one one) ≡ Err InputNotFinite
not_finite = refl

pub overflow : vector_from true (multiple (vector huge one one) huge) ≡ Err AnswerNotFinite
unfolding mul of_bits
overflow = refl

pub by_zero : quotient_from true (vector four one one) positive_zero ≡ Err DivisionByZero
unfolding eq of_bits
by_zero = refl

pub singular-2 : inverse_answer2 (square one two two four) ≡ Err ZeroDeterminant
unfolding eq sub mul of_bits
singular-2 = refl

-- two equal columns
pub singular-3 : inverse_answer3 (columns (vector one positive_zero positive_zero) (vector positive_zero one positive_zero) (vector positive_zero one positive_zero)) ≡ Err ZeroDeterminant
unfolding eq add sub mul of_bits
singular-3 = refl

pub answer-of-minus-one : root_answer (of_bits binary64 0xBFF0_0000_0000_0000) ≡ Err AnswerNotFinite
unfolding square_root of_bits
answer-of-minus-one = refl

pub answer-of-infinity : root_answer (inf false) ≡ Err InputNotFinite
answer-of-infinity = refl

pub answer-of-nan : root_answer nan ≡ Err InputNotFinite
answer-of-nan = refl
