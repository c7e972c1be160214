use Rattle.std.proofs.Common.{arith}
use Rattle.partitions.proofs.Tail.{none_left, first_then}
use Rattle.partitions.proofs.inner.+init.Goals as goal

pub returns-then-len-eq0 : goal.returns-then-len-eq0
returns-then-len-eq0 t c = none_left c.args.array.now c.args.n c.args.max c.if-len-eq0.true

pub returns : goal.returns
returns t c =
    let a = c.args in
    first_then a.array.now a.n a.max c.min-first.result c.init.new.array (omega arith) c.min-first.ensures c.init.ensures
