-- Small inputs of the rotation and of the circle, computed: what the quarter turns and signs of zero give, and each refusal. Assumes nothing.
use Rattle.std.proofs.Common.{◌≡◌, refl, Float, Err}
use Rattle.std.specs.Float.{nan}
use Rattle.std.specs.Float.Ieee.{of_bits, add, mul, neg}
use Rattle.ieee_vectors.specs.Vectors.{vector, positive_zero}
use Rattle.refusals.specs.declared.Refusal.TheVariants.{OrderAbove20, InputNotFinite, AnswerNotFinite}
use Rattle.ieee_vectors.proofs.Floats.{minus_one, huge}
use Rattle.rolling_ball_fillet.specs.declared.ContactCircle.{ContactCircle}
use Rattle.rodrigues.specs.Rotation.{one, turned, pair_of, rotation, zeros}
use Rattle.rolling_ball_fillet.specs.Answers.{rotation_answer, derivative_answer}

-- four quarter turns are none
pub whole-turn : (s c : Float) → turned 4 s c ≡ pair_of s c
whole-turn s c = refl

-- k is +0, not −0, at c = +0 where the angle's order is not 0
pub signed-zero : rotation 2 0 0 4 (vector positive_zero positive_zero one) one positive_zero ≡ zeros
unfolding add mul neg of_bits
signed-zero = refl

-- ---- refusals
pub order-21 : rotation_answer 0 0 0 21 (vector positive_zero positive_zero one) one positive_zero ≡ Err OrderAbove20
order-21 = refl

pub not_finite : rotation_answer 0 0 0 0 (vector nan positive_zero one) one positive_zero ≡ Err InputNotFinite
not_finite = refl

pub overflow : rotation_answer 1 0 0 0 (vector huge positive_zero one) positive_zero minus_one ≡ Err AnswerNotFinite
unfolding add mul neg of_bits
overflow = refl

pub derivative-order-21 : (o : ContactCircle) (s c : Float) → derivative_answer o 21 s c ≡ Err OrderAbove20
derivative-order-21 o s c = refl
