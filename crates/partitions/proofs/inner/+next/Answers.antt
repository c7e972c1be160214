use Rattle.std.proofs.Common.{sym, ◌∙◌, arith, ◌≡◌, ◌<◌, ◌≤◌, ◌^◌, lt_of_le_of_lt, lit<, rules, ◌+◌}
use Rattle.std.specs.List.{sum}
use Rattle.partitions.proofs.Tail.{tail_of, tail-length}
use Rattle.partitions.proofs.Moves.{no-tail, head-positive, head_small, tail-falls, tail-total, tail-sum, length-le, moved-tail, moved_none, moved-anew}
use Rattle.partitions.proofs.inner.+next.Goals as goal

pub returns-then-len-le1 : goal.returns-then-len-le1
returns-then-len-le1 t c =
    no-tail c.args.array.now (search rules)

pub overflow_sub-max : goal.overflow_sub-max
overflow_sub-max t c =
    head-positive c.args.array.now (omega arith) c.requires.0

pub sum-n-requires-clause-fits : goal.sum-n-requires-clause-fits
sum-n-requires-clause-fits t c =
    let x = c.args.array.now in
    let small : sum (tail_of x) < 2 ^ 64 = lt_of_le_of_lt (tail-sum x (omega arith) c.requires.0 c.requires.1) (lit< {m = 20} tt) in
    search rules

pub overflow_add-n : goal.overflow_add-n
overflow_add-n t c =
    let x = c.args.array.now in
    let s : c.sum-n.result ≡ sum (tail_of x) = search rules in
    let small : c.sum-n.result + 1 ≤ 21 = omega (arith, tail-sum x (omega arith) c.requires.0 c.requires.1) in
    record { fits = lt_of_le_of_lt small (lit< tt) }

pub next-requires : goal.next-requires
next-requires t c =
    let x = c.args.array.now in
    let p = c.requires in
    (omega (arith, tail-length x), (tail-falls x (omega arith) p.0, omega (arith, tail-total x (omega arith) p.0)))

pub returns-then-next : goal.returns-then-next
returns-then-next t c =
    moved-tail c.args.array.now c.next.new.array (omega arith) c.next.ensures.1 (sym c.next.ensures.0 ∙ c.if-next.true)

pub can_init-requires : goal.can_init-requires
can_init-requires t c =
    let x = c.args.array.now in
    let p = c.requires in
    (omega (arith, length-le 20 x p.0), omega (arith, head_small x (omega arith) p.0))

pub returns-then-can_init : goal.returns-then-can_init
returns-then-can_init t c =
    let x = c.args.array.now in
    let p = c.requires in
    moved-anew x c.next.new.array c.init.new.array c.sum-n.result (omega arith) c.next.auto.array
    (sym c.next.ensures.0 ∙ c.if-next.false)
    (search rules)
    (sym c.can_init.ensures ∙ c.if-can_init.true)
    c.init.ensures

pub returns-else-can_init : goal.returns-else-can_init
returns-else-can_init t c =
    let x = c.args.array.now in
    let p = c.requires in
    moved_none x c.next.new.array c.sum-n.result (omega arith) c.next.ensures.1
    (sym c.next.ensures.0 ∙ c.if-next.false)
    (search rules)
    (sym c.can_init.ensures ∙ c.if-can_init.false)
