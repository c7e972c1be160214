-- What becomes of an answer: a value goes into the list lent, beside 0; a refusal leaves that list as it was, beside its number. Assumes nothing.
use Rattle.std.specs.Prelude.{List, [], ◌∷◌, ℕ, ℤ, length, Result, Ok, Err}
use Rattle.refusals.specs.declared.Refusal.{Refusal}
use Rattle.refusals.specs.Number.{number}
use Rattle.whole.specs.Checked.{Whole}
use Rattle.given.specs.Given.{first, count_given}
use Rattle.given.specs.Lists.{admitted}

-- ---- a number into a list of one; a count too, whose list is tested after an order (1) and before a part list (3)
unfoldable pub deliver_whole : Whole → List ℤ → ℕ × List ℤ
deliver_whole (Ok z) out = admitted (count_given 1 (length out)) out (0, z ∷ [])
deliver_whole (Err c) out = admitted (count_given 1 (length out)) out (number c, out)

unfoldable pub deliver_count : Result ℕ Refusal → List ℕ → ℕ × List ℕ
deliver_count (Ok v) out = admitted (count_given 1 (length out)) out (0, v ∷ [])
deliver_count (Err c) out = (first (number c) (count_given 1 (length out)), out)
