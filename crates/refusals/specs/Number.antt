-- Document 01's number of each refusal, and 0 of an answer. Assumes nothing.
use Rattle.std.specs.Prelude.{ℕ, Result, Ok, Err}
use Rattle.refusals.specs.declared.Refusal.{Refusal}
use Rattle.refusals.specs.declared.Refusal.TheVariants.{OrderAbove20, Shape, NoPartList, NoRecipe, InputNotFinite, ZeroDeterminant, DivisionByZero, Remainder, OutOfRange, AnswerNotFinite, PairNotServed}

abbrev pub number : Refusal → ℕ
number OrderAbove20 = 1
number Shape = 2
number NoPartList = 3
number NoRecipe = 4
number InputNotFinite = 5
number ZeroDeterminant = 6
number DivisionByZero = 7
number Remainder = 8
number OutOfRange = 9
number AnswerNotFinite = 10
number PairNotServed = 11

abbrev pub number_of : {A : Type 0} → Result A Refusal → ℕ
number_of (Ok a) = 0
number_of (Err r) = number r
