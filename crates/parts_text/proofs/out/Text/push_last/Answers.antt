-- `parts_text::out::Text::push_last` meets its contract. Assumes nothing.
use Rattle.std.proofs.Common.{◌++◌}
use Rattle.parts_text.specs.Text.{spaced}
use Rattle.parts_text.proofs.Puts.{after, after_byte}
use Rattle.parts_text.proofs.out.Text.push_last.Goals as goal

pub returns : goal.returns
returns c =
    let a = c.args in
    after_byte a.self.now (a.word.now ++ spaced a.n) 10 (after a.self.now a.word.now (spaced a.n) c.push_all.ensures c.push_spaced.ensures) c.push.ensures
