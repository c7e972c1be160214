use Rattle.std.proofs.Common.{sym, ap, ◌∙◌, ℕ, ◌/◌, get_or, drop, arith, rules}
use Rattle.std.specs.Slice.Iter.{windows_rest}
use Rattle.partitions.specs.Parts.{divide, runs_from}
use Rattle.partitions.proofs.Out.{fact-pos}
use Rattle.partitions.proofs.Slices.{runs-start, one_less, run-longer, run-over, runs_past, divide-first, divide-one}
use Rattle.partitions.proofs.inner.over_runs.Goals as goal

pub loop-pair-init : goal.loop-pair-init
loop-pair-init c = rw c.into_iter-pair-iterator.ensures.into_iter_gives (rw c.windows-pair-items.ensures.rest (search rules, search rules, omega arith, ap (divide c.args.x) (runs-start c.args.list.now (search rules))))

pub loop-pair-preserved-then-pair : goal.loop-pair-preserved-then-pair
loop-pair-preserved-then-pair c =
    let l = c.loop-pair in
    let i = l.invariant in
    let t = c.in-Some.ensures.steps in
    let h = t.1 in
    let less = one_less l.run _ i.0 h.0 h.1 h.2 in
    (t.0 ∙ i.0, omega arith, omega arith, ap (divide l.rest) (sym (run-longer l.run _ i.0 h.0 h.1 h.2 c.if-pair.true)) ∙ i.3)

pub nonzero_div-rest : goal.nonzero_div-rest
nonzero_div-rest c = rw c.factorial-rest.ensures (fact-pos _)

pub loop-pair-preserved : goal.loop-pair-preserved
loop-pair-preserved c =
    let l = c.loop-pair in
    let i = l.invariant in
    let t = c.in-Some.ensures.steps in
    let h = t.1 in
    let left = windows_rest c.next.new.self in
    let less = one_less l.run _ i.0 h.0 h.1 h.2 in
    let after = runs_from (get_or left 0 0) 1 (drop 1 left) in (
      t.0 ∙ i.0,
      omega arith,
      omega arith,
      ap (λ (f : ℕ). divide (l.rest / f) after) c.factorial-rest.ensures
          ∙ divide-first l.rest l.run after
          ∙ ap (divide l.rest) (sym (run-over l.run _ i.0 h.0 h.1 h.2 c.if-pair.false)) ∙ i.3,
    )

pub nonzero_div-result : goal.nonzero_div-result
nonzero_div-result c = rw c.factorial.ensures (fact-pos _)

pub returns : goal.returns
returns c =
    let l = c.loop-pair in
    let i = l.invariant in
    let left = windows_rest l.pair-iterator in
    ap (λ (f : ℕ). l.rest / f) c.factorial.ensures ∙ divide-one l.rest l.run
    ∙ ap (divide l.rest) (sym (runs_past (get_or left 0 0) l.run left (omega (arith, i.0, c.in-None.ensures.steps.1)))) ∙ i.3
