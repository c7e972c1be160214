-- `parts_text::out::Text::push_all` meets its contract. The invariant: the bytes passed are written. Assumes nothing.
use Rattle.std.proofs.Common.{◌≡◌, take}
use Rattle.parts_text.specs.Inner.{puts}
use Rattle.parts_text.proofs.out.Text.push_all.Given as goal

abbrev pub invariant-loop-b : goal.invariant-loop-b
invariant-loop-b l = l.self ≡ puts l.initial.self (take l.b-index l.bytes)
