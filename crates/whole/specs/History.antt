-- Whole numbers with their history: arithmetic has no bound, and each operation records the number that it forms, and each division its
-- two numbers before. The verdict on a history is the refusal of the first event that is refused, if one is. A history is all that a number
-- rests on, and no log of the work: a number that is used twice brings its history twice, and a coefficient is recorded at each use. Assumes nothing.
use Rattle.std.specs.Prelude.{Bool, true, false, cond, List, [], ◌∷◌, ◌++◌, ℕ, eqb, ℤ, pos, ◌+ℤ◌, ◌-ℤ◌, ◌*ℤ◌, nat_abs, Result, Ok, Err, ⊤}
use Rattle.std.specs.Int.Signed.{quot_z, rem_z}
use Rattle.std.specs.Result.{result_and}
use Rattle.refusals.specs.declared.Refusal.{Refusal}
use Rattle.refusals.specs.declared.Refusal.TheVariants.{DivisionByZero, Remainder, OutOfRange}
use Rattle.whole.specs.Checked.{Whole, in_range}

pub data Event : Type 0 where
  forms : ℤ → Event
  divides : ℤ → ℤ → Event

pub record Traced : Type 0 where
  pub value : ℤ
  pub history : List Event

-- nothing is refused, or why something is
abbrev pub Verdict : Type 0
Verdict = Result ⊤ Refusal

-- of numbers, by whether all are in range; and of a division, by whether it is by zero, and exact
abbrev pub range_verdict : Bool → Verdict
range_verdict inside = cond inside (Ok tt) (Err OutOfRange)

abbrev pub division_verdict : Bool → Bool → Verdict
division_verdict by_zero exact = cond by_zero (Err DivisionByZero) (cond exact (Ok tt) (Err Remainder))

abbrev pub judge : Event → Verdict
judge (forms z) = range_verdict (in_range z)
judge (divides x y) = division_verdict (eqb (nat_abs y) 0) (eqb (nat_abs (rem_z x y)) 0)

unfoldable pub verdict : List Event → Verdict
verdict [] = Ok tt
verdict (e ∷ es) = result_and (judge e) (verdict es)

-- what a number with its history comes to
abbrev pub settle : Traced → Whole
settle t = result_and (verdict t.history) (Ok t.value)

-- a number that is given, bare of a history: nothing is formed
abbrev pub bare : ℤ → Traced
bare z = record { value = z; history = [] }

-- an operation on two numbers: what the first took, what the second took, and then what the operation adds
abbrev pub then : (ℤ → ℤ → ℤ) → (ℤ → ℤ → List Event) → Traced → Traced → Traced
then f es x y = record {
  value = f x.value y.value;
  history = x.history ++ (y.history ++ es x.value y.value);
}

abbrev pub traced_plus : Traced → Traced → Traced
traced_plus = then ◌+ℤ◌ (λ x y. forms (x +ℤ y) ∷ [])

abbrev pub traced_minus : Traced → Traced → Traced
traced_minus = then ◌-ℤ◌ (λ x y. forms (x -ℤ y) ∷ [])

abbrev pub traced_times : Traced → Traced → Traced
traced_times = then ◌*ℤ◌ (λ x y. forms (x *ℤ y) ∷ [])

abbrev pub traced_over : Traced → Traced → Traced
traced_over = then quot_z (λ x y. divides x y ∷ (forms (quot_z x y) ∷ []))

-- a coefficient, such as a binomial
abbrev pub traced_of_nat : ℕ → Traced
traced_of_nat n = record { value = pos n; history = forms (pos n) ∷ [] }

-- the numbers that a history forms, in its order, each as often as it stands there
unfoldable pub numbers : List Event → List ℤ
numbers [] = []
numbers (forms z ∷ es) = z ∷ numbers es
numbers (divides x y ∷ es) = numbers es

-- each number passes the test
unfoldable pub every : (ℤ → Bool) → List ℤ → Bool
every p [] = true
every p (z ∷ zs) = cond (p z) (every p zs) false

-- no division of a history is by zero or leaves a remainder
unfoldable pub exact : List Event → Bool
exact [] = true
exact (forms z ∷ es) = exact es
exact (divides x y ∷ es) = cond (eqb (nat_abs y) 0) false (cond (eqb (nat_abs (rem_z x y)) 0) (exact es) false)
