-- `parts_text::out::Text::push_decimal` meets its contract: by recursion the digits before the last. The measure is the number. Assumes nothing.
use Rattle.parts_text.proofs.out.Text.+push_decimal.Given as goal

abbrev pub decreases-push_decimal : goal.decreases-push_decimal
decreases-push_decimal l = l.n
