-- Inputs of the program and what it prints for each, as the definitions say it, and where the answer to one is settled. Assumes nothing.
use Rattle.std.proofs.Common.{◌≡◌, refl, true, false, [], ◌∷◌}
use Rattle.partitions.specs.Parts.{parts, multiplicity, divide, total, fact, runs, runs_from}
use Rattle.partitions.specs.Count.{total_count}
use Rattle.parts_text.specs.declared.Reading.TheVariants.{Before}
use Rattle.parts_text.specs.Text.{digits, joined, answer}
use Rattle.parts_text.specs.Printed.{numbers, printed}
use Rattle.parts_text.specs.Reading.{fed, settled}

-- `4 2` and a line feed
four-two : printed (52 ∷ 32 ∷ 50 ∷ 10 ∷ []) ≡ 52 ∷ 32 ∷ 51 ∷ 32 ∷ 49 ∷ 10 ∷ 51 ∷ 32 ∷ 50 ∷ 32 ∷ 50 ∷ 10 ∷ 116 ∷ 111 ∷ 116 ∷ 97 ∷ 108 ∷ 32 ∷ 55 ∷ 10 ∷ []
unfolding printed numbers answer parts multiplicity divide total fact runs runs_from total_count digits joined
four-two = refl

-- leading zeros, and no line end
no_end : printed (48 ∷ 48 ∷ 52 ∷ 32 ∷ 13 ∷ 48 ∷ 50 ∷ []) ≡ 52 ∷ 32 ∷ 51 ∷ 32 ∷ 49 ∷ 10 ∷ 51 ∷ 32 ∷ 50 ∷ 32 ∷ 50 ∷ 10 ∷ 116 ∷ 111 ∷ 116 ∷ 97 ∷ 108 ∷ 32 ∷ 55 ∷ 10 ∷ []
unfolding printed numbers answer parts multiplicity divide total fact runs runs_from total_count digits joined
no_end = refl

-- an order above 20 comes before a len of 0
order-refused : printed (50 ∷ 49 ∷ 32 ∷ 48 ∷ []) ≡ 114 ∷ 101 ∷ 102 ∷ 117 ∷ 115 ∷ 101 ∷ 100 ∷ 32 ∷ 49 ∷ 10 ∷ []
unfolding printed numbers answer parts multiplicity divide total fact runs runs_from total_count digits joined
order-refused = refl

-- a len above the order
len-refused : printed (50 ∷ 32 ∷ 51 ∷ []) ≡ 114 ∷ 101 ∷ 102 ∷ 117 ∷ 115 ∷ 101 ∷ 100 ∷ 32 ∷ 51 ∷ 10 ∷ []
unfolding printed numbers answer parts multiplicity divide total fact runs runs_from total_count digits joined
len-refused = refl

-- one number
one_number : printed (52 ∷ 10 ∷ []) ≡ 114 ∷ 101 ∷ 102 ∷ 117 ∷ 115 ∷ 101 ∷ 100 ∷ 32 ∷ 50 ∷ 10 ∷ []
unfolding printed numbers answer parts multiplicity divide total fact runs runs_from total_count digits joined
one_number = refl

-- a tab is no separator
tab : printed (52 ∷ 9 ∷ 50 ∷ []) ≡ 114 ∷ 101 ∷ 102 ∷ 117 ∷ 115 ∷ 101 ∷ 100 ∷ 32 ∷ 50 ∷ 10 ∷ []
unfolding printed numbers answer parts multiplicity divide total fact runs runs_from total_count digits joined
tab = refl

-- two numbers and a line feed, after which a third number may come; and its first digit
two-numbers : settled (fed Before (52 ∷ 10 ∷ 52 ∷ 10 ∷ [])) ≡ false
unfolding fed
two-numbers = refl

third-number : settled (fed Before (52 ∷ 10 ∷ 52 ∷ 10 ∷ 52 ∷ [])) ≡ true
unfolding fed
third-number = refl
