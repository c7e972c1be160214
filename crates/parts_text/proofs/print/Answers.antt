-- `parts_text::print` meets its contract. Assumes nothing.
use Rattle.std.proofs.Common.{◌∙◌, ap}
use Rattle.parts_text.specs.Printed.{filled}
use Rattle.parts_text.specs.Reading.{fed, finished}
use Rattle.parts_text.proofs.Laws.{read_whole}
use Rattle.parts_text.proofs.print.Goals as goal

pub returns : goal.returns
returns c =
    let input = c.args.input.now in
    let e = ap finished (c.feed.ensures ∙ ap (λ s. fed s input) c.start.ensures) ∙ read_whole input in
    (c.report.ensures.0 ∙ e, c.report.ensures.1 ∙ ap filled e)
