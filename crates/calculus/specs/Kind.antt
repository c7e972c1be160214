-- A kind of number: what a formula on derivatives asks of the numbers that it is written over. And entries that such numbers scale: a
-- module over them. Neither says anything of laws. Assumes nothing.
use Rattle.std.specs.Prelude.{ℕ, ℤ, pos, ◌+ℤ◌, ◌-ℤ◌, ◌*ℤ◌}
use Rattle.std.specs.Int.Signed.{quot_z}

pub record Kind (A : Type 0) : Type 0 where
  pub zero : A
  pub one : A
  pub plus : A → A → A
  pub minus : A → A → A
  pub times : A → A → A
  pub over : A → A → A
  -- a coefficient
  pub of_nat : ℕ → A

-- entries of a jet: they are added, subtracted and scaled by numbers. A vector of numbers is scaled component by component
pub record Module (S A : Type 0) : Type 0 where
  pub scalars : Kind S
  pub zero : A
  pub plus : A → A → A
  pub minus : A → A → A
  pub scale : A → S → A

-- the numbers themselves as entries
abbrev pub regular : {A : Type 0} → Kind A → Module A A
regular K = record { scalars = K; zero = K.zero; plus = K.plus; minus = K.minus; scale = K.times }

-- the integers, with no bound; a quotient is rounded toward zero
abbrev pub plain : Kind ℤ
plain = record { zero = pos 0; one = pos 1; plus = ◌+ℤ◌; minus = ◌-ℤ◌; times = ◌*ℤ◌; over = quot_z; of_nat = pos }
