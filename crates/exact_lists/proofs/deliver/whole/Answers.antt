-- `exact_lists::deliver::whole` meets its contract. Assumes nothing.
use Rattle.std.proofs.Common.{◌∙◌}
use Rattle.exact_lists.proofs.Numbers.{whole_alone}
use Rattle.exact_lists.proofs.deliver.whole.Goals as goal

pub returns : goal.returns
returns c = c.alone.ensures ∙ whole_alone c.args.answer c.args.out.now
