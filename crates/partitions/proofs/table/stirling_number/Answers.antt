-- `partitions::table::stirling_number` meets its contract: the table's rule is proved once over all of it (Triangle.antt). Assumes nothing.
use Rattle.std.proofs.Common.{ap, ◌∙◌, le-ltb, rules, Ok}
use Rattle.partitions.specs.Count.{stirling_of}
use Rattle.partitions.proofs.Triangle.{triangle-at}
use Rattle.partitions.proofs.table.stirling_number.Goals as goal

pub returns : goal.returns
unfolding stirling_of
returns c =
    let a = c.args in
    ap Ok (triangle-at a.order a.len (search rules) (search rules))
    ∙ simp (le-ltb 20 a.order c.if-order-gt20.false, le-ltb a.order a.len c.if-order-len.false)
