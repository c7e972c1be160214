-- `parts_text::feed` meets its contract. Assumes nothing.
use Rattle.std.proofs.Common.{◌∙◌, sym, rules}
use Rattle.std.proofs.lemmas.Iterator.{YieldsList-from_slice}
use Rattle.std.proofs.lemmas.Iterator.Consumers.{fold_from_yields_List}
use Rattle.parts_text.specs.Printed.{kind}
use Rattle.parts_text.specs.Reading.{step}
use Rattle.parts_text.proofs.Fed.{fed_fold}
use Rattle.parts_text.proofs.feed.Goals as goal

pub returns : goal.returns
returns c =
    let a = c.args in
    fold_from_yields_List _ (λ s b. step s (kind b)) a.state _ c.fold.ensures.ran (YieldsList-from_slice a.bytes.now cc) (λ s b t f k. search rules)
    ∙ sym (fed_fold a.state a.bytes.now)
