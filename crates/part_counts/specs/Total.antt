-- The total of the multiplicities of all lists of an order and a len. Assumes nothing.
use Rattle.std.specs.Prelude.{ℕ, Result, Ok, Err}
use Rattle.refusals.specs.declared.Refusal.{Refusal}
use Rattle.partitions.specs.Parts.{lists}
use Rattle.partitions.specs.Count.{total_count}
use Rattle.partitions.specs.Walk.{tested}

-- refused as a walk's start is
abbrev pub total_by : ℕ → ℕ → Result (Unit {0}) Refusal → Result ℕ Refusal
total_by order len (Ok _) = Ok (total_count (lists order len))
total_by order len (Err r) = Err r

unfoldable pub total_of : ℕ → ℕ → Result ℕ Refusal
total_of order len = total_by order len (tested order len)
