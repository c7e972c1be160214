-- Exact numbers that are checked as they are formed: a number, or the refusal of the first operation that met one (document 01,
-- "Refusal table": a division by zero, a remainder, a number formed outside signed 64 bits). Assumes nothing.
use Rattle.std.specs.Prelude.{◌≡◌, Bool, cond, ℕ, ◌^◌, ltb, eqb, ℤ, pos, ◌+ℤ◌, ◌-ℤ◌, ◌*ℤ◌, nat_abs, Result, Ok, Err, MatchResult}
use Rattle.std.specs.Int.Signed.{mag, quot_z, rem_z}
use Rattle.refusals.specs.declared.Refusal.{Refusal}
use Rattle.refusals.specs.declared.Refusal.TheVariants.{DivisionByZero, Remainder, OutOfRange}

-- an exact number, or why there is none
abbrev pub Whole : Type 0
Whole = Result ℤ Refusal

-- z lies in -2^63 .. 2^63 - 1: `mag` of -n - 1 is n
abbrev pub in_range : ℤ → Bool
in_range z = ltb (mag z) (2 ^ 63)

-- a number that an operation forms
unfoldable pub formed : ℤ → Whole
formed z = cond (in_range z) (Ok z) (Err OutOfRange)

-- a division: by zero, with a remainder, or the quotient formed
unfoldable pub divided : ℤ → ℤ → Whole
divided x y = cond (eqb (nat_abs y) 0) (Err DivisionByZero) (cond (eqb (nat_abs (rem_z x y)) 0) (formed (quot_z x y)) (Err Remainder))

-- an operation on two numbers: the first refusal, of the first number, of the second, or of the operation
abbrev pub both : (ℤ → ℤ → Whole) → Whole → Whole → Whole
both f (Ok x) (Ok y) = f x y
both f (Ok x) (Err d) = Err d
both f (Err c) y = Err c

abbrev pub plus : Whole → Whole → Whole
plus = both (λ x y. formed (x +ℤ y))

abbrev pub minus : Whole → Whole → Whole
minus = both (λ x y. formed (x -ℤ y))

abbrev pub times : Whole → Whole → Whole
times = both (λ x y. formed (x *ℤ y))

abbrev pub over : Whole → Whole → Whole
over = both divided

-- a coefficient, such as a binomial
abbrev pub of_nat : ℕ → Whole
of_nat n = formed (pos n)

-- the same of numbers whose refusals may be others: `gives` says what the caller makes of the operation's own refusal
abbrev pub Both : {E : Type 0} → (Refusal → E → Type 0) → (ℤ → ℤ → Whole) → Result ℤ E → Result ℤ E → Result ℤ E → Type 0
Both {E} gives f (Ok x) (Ok y) r = MatchResult (f x y) (λ z. r ≡ Ok z) (λ c. (e : E) × gives c e × (r ≡ Err e))
Both gives f (Ok x) (Err d) r = r ≡ Err d
Both gives f (Err c) y r = r ≡ Err c
