-- `parts_text::out::Text::push_line` meets its contract. Assumes nothing.
use Rattle.std.proofs.Common.{◌++◌}
use Rattle.parts_text.specs.Text.{decimal, joined, spaced}
use Rattle.parts_text.proofs.Puts.{after, after_byte}
use Rattle.parts_text.proofs.out.Text.push_line.Goals as goal

pub returns : goal.returns
returns c =
    let a = c.args in
    let s = joined spaced a.parts.now in
    after_byte a.self.now (decimal a.count ++ s) 10 (after a.self.now (decimal a.count) s c.push_decimal.ensures c.push_parts.ensures) c.push.ensures
