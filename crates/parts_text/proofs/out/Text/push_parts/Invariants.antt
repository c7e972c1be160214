-- `parts_text::out::Text::push_parts` meets its contract. The invariant: the parts passed are written. Assumes nothing.
use Rattle.std.proofs.Common.{◌≡◌, take}
use Rattle.parts_text.specs.Text.{joined, spaced}
use Rattle.parts_text.specs.Inner.{puts}
use Rattle.parts_text.proofs.out.Text.push_parts.Given as goal

abbrev pub invariant-loop-part : goal.invariant-loop-part
invariant-loop-part l = l.self ≡ puts l.initial.self (joined spaced (take l.part-index l.parts))
