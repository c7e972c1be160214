use Rattle.std.proofs.Common.{◌∙◌, ap, sym, take, get_or, rules}
use Rattle.parts_text.specs.Text.{joined, spaced}
use Rattle.parts_text.specs.Inner.{puts}
use Rattle.parts_text.proofs.Puts.{puts_none, after, joined-more}
use Rattle.parts_text.proofs.out.Text.push_parts.Goals as goal

pub loop-part-init : goal.loop-part-init
unfolding joined
loop-part-init c = puts_none _

pub loop-part-preserved : goal.loop-part-preserved
loop-part-preserved c =
    let l = c.loop-part in
    let a = c.args in
    after a.self.now (joined spaced (take l.part-index a.parts.now)) (spaced (get_or a.parts.now l.part-index 0)) l.invariant c.push_spaced.ensures
    ∙ ap (puts a.self.now) (sym (joined-more spaced a.parts.now l.part-index (search rules)))
