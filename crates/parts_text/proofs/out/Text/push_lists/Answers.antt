use Rattle.std.proofs.Common.{◌∙◌, ap, sym, Ok}
use Rattle.std.proofs.lemmas.Result.{err_from_is_err_and}
use Rattle.parts_text.proofs.Going.{start-refused, going_start, Next, taken, totalled, going_end, next, falls, list_counts, going_on}
use Rattle.parts_text.proofs.out.Text.push_lists.Goals as goal
use Rattle.parts_text.proofs.out.Text.push_lists.Goals.{In-Some}

-- the list that the step hands out
handed : (c : In-Some) → Next c.loop-parts.invariant c.in-Some.parts c.next.new.self
handed c = next c.loop-parts.invariant (sym c.next.ensures.0 ∙ c.in_ok-parts.was ∙ ap Ok c.in-Some.is) c.next.ensures.1

pub returns-in_err-walk : goal.returns-in_err-walk
returns-in_err-walk c =
    let a = c.args in
    let p = err_from_is_err_and c.from_residual.result c.from_residual.ensures.1 in
    rw (p.1, p.2) (start-refused a.order a.len a.self.now _ (sym c.try_new.ensures ∙ c.in_err-walk.was))

pub loop-parts-init : goal.loop-parts-init
loop-parts-init c = let a = c.args in going_start a.order a.len a.self.now c.in_ok-walk.walk (sym c.try_new.ensures ∙ c.in_ok-walk.was)

pub returns-in_err-parts : goal.returns-in_err-parts
returns-in_err-parts c = absurd (taken c.loop-parts.invariant _ (sym c.next.ensures.0 ∙ c.in_err-parts.was))

pub returns-in_err-count : goal.returns-in_err-count
returns-in_err-count c =
    absurd (list_counts c.loop-parts.invariant (handed (goal.at.returns-in_err-count c).In-Some) _ (sym c.multiplicity.ensures ∙ c.in_err-count.was))

pub loop-parts-smaller : goal.loop-parts-smaller
loop-parts-smaller c =
    falls c.loop-parts.invariant (handed (goal.at.loop-parts-smaller c).In-Some)

pub loop-parts-preserved : goal.loop-parts-preserved
loop-parts-preserved c =
    going_on c.loop-parts.invariant (handed (goal.at.loop-parts-preserved c).In-Some) (sym c.multiplicity.ensures ∙ c.in_ok-count.was) c.push_line.ensures

pub returns-in_err-total : goal.returns-in_err-total
returns-in_err-total c = absurd (totalled c.loop-parts.invariant _ (sym c.total_multiplicity.ensures ∙ c.in_err-total.was))

pub returns : goal.returns
returns c =
    let g = c.loop-parts.invariant in
    (sym g.range, going_end g (sym c.next.ensures.0 ∙ c.in_ok-parts.was ∙ ap Ok c.in_default.is) (sym c.total_multiplicity.ensures ∙ c.in_ok-total.was) c.push_last.ensures)
