use Rattle.std.proofs.Common.{◌∙◌, ap, sym, take, get_or, rules}
use Rattle.std.proofs.lemmas.List.{take_more}
use Rattle.parts_text.specs.Inner.{puts}
use Rattle.parts_text.proofs.Puts.{puts_none, after_byte}
use Rattle.parts_text.proofs.out.Text.push_all.Goals as goal

pub loop-b-init : goal.loop-b-init
loop-b-init c = puts_none _

pub loop-b-preserved : goal.loop-b-preserved
loop-b-preserved c =
    let l = c.loop-b in
    let a = c.args in
    after_byte a.self.now (take l.b-index a.bytes.now) (get_or a.bytes.now l.b-index 0) l.invariant c.push.ensures
    ∙ ap (puts a.self.now) (sym (take_more a.bytes.now l.b-index 0 (search rules)))
