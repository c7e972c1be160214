-- `parts_text::out::Text::push_spaced` meets its contract. Assumes nothing.
use Rattle.parts_text.specs.Text.{decimal}
use Rattle.parts_text.proofs.Puts.{byte-first}
use Rattle.parts_text.proofs.out.Text.push_spaced.Goals as goal

pub returns : goal.returns
returns c = byte-first c.args.self.now 32 (decimal c.args.n) c.push.ensures c.push_decimal.ensures
