use Rattle.std.proofs.Common.{sym, ap, ◌∙◌, ℕ, ◌+◌, ◌/◌, drop, arith, rules}
use Rattle.partitions.specs.Parts.{divide}
use Rattle.partitions.proofs.Out.{fact-pos}
use Rattle.partitions.proofs.Member.{part-total}
use Rattle.partitions.proofs.Slices.{divide-at, divide-past}
use Rattle.partitions.proofs.inner.over_parts.Goals as goal

pub factorial-rest-requires : goal.factorial-rest-requires
factorial-rest-requires c = omega (arith, part-total c.args.list.now c.loop-a.a-index, c.requires)

pub nonzero_div-rest : goal.nonzero_div-rest
nonzero_div-rest c = rw c.factorial-rest.ensures (fact-pos _)

pub loop-a-preserved : goal.loop-a-preserved
loop-a-preserved c =
    let l = c.loop-a in
    let list = c.args.list.now in
    ap (λ (f : ℕ). divide (l.rest / f) (drop (l.a-index + 1) list)) c.factorial-rest.ensures ∙ sym (divide-at l.rest list l.a-index (search rules)) ∙ l.invariant

pub returns : goal.returns
returns c = let l = c.loop-a in sym (divide-past l.rest c.args.list.now l.a-index (search rules)) ∙ l.invariant
