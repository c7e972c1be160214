-- `capi_exact::part_lists::start` meets its contract. Assumes nothing.
use Rattle.std.proofs.Common.{length, ap₂, sym, ◌∙◌}
use Rattle.given.specs.Given.{first}
use Rattle.given.proofs.Admission.{rest-fits, count_fits, answered-0}
use Rattle.capi_exact.proofs.part_lists.start.Goals as goal

pub write_walk-requires : goal.write_walk-requires
write_walk-requires c =
    let e = c.first.ensures ∙ ap₂ first c.order.ensures c.count.ensures in
    count_fits 23 (length c.args.walk.now) (rest-fits _ _ (sym e ∙ answered-0 c.in_ok-first.was))
