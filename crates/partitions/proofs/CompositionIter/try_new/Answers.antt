-- `partitions::CompositionIter::try_new` meets its contract: the refusals, or the first list. Assumes nothing.
use Rattle.std.proofs.Common.{sym, ◌∙◌}
use Rattle.std.proofs.lemmas.Result.{err_from_is_err_and}
use Rattle.partitions.proofs.Stepping.{start-refused, start_first}
use Rattle.partitions.proofs.CompositionIter.try_new.Goals as goal

pub returns-in_err-test : goal.returns-in_err-test
returns-in_err-test c =
    let p = err_from_is_err_and c.from_residual.result c.from_residual.ensures.1 in
    rw (p.1, p.2) (start-refused c.args.order c.args.len _ (sym c.test.ensures ∙ c.in_err-test.was))

pub returns : goal.returns
returns c = start_first c.args.order c.args.len c.init.new.array (sym c.test.ensures ∙ c.in_ok-test.was) c.init.ensures
