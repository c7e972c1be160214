-- `partitions::CompositionIter::item` meets its contract: the refusals, the end, and the list that the record holds. Assumes nothing.
use Rattle.std.proofs.Common.{sym, ap, ◌∙◌, Some, Ok, rules}
use Rattle.std.proofs.lemmas.Result.{err_from_is_err_and}
use Rattle.partitions.proofs.Stepping.{item-refused, item-ended, item_sum, item_falls, item-holds, step-moves}
use Rattle.partitions.proofs.CompositionIter.item.Goals as goal
use Rattle.partitions.proofs.CompositionIter.item.Goals.{else-eq-via-then-eq+else-falls, else-eq-via-else-eq}

pub returns-in_err-test : goal.returns-in_err-test
returns-in_err-test c =
    let p = err_from_is_err_and c.from_residual.result c.from_residual.ensures.1 in
    rw (p.1, p.2) (item-refused c.args.self _ (sym c.test.ensures ∙ c.in_err-test.was))

pub returns-then-self : goal.returns-then-self
returns-then-self c = item-ended c.args.self (sym c.test.ensures ∙ c.in_ok-test.was) c.if-self.true

pub returns-then-falls : goal.returns-then-falls
returns-then-falls c =
    let w = c.args.self in
    let holds = item-holds w (sym c.test.ensures ∙ c.in_ok-test.was) c.if-self.false c.total.result c.total.ensures (search rules) (search rules) (sym c.falls.ensures ∙ c.if-falls.true) in
    ap (λ p. Ok (Some p)) c.pad.ensures ∙ sym (ap (λ s. s.item) (step-moves holds))

pub returns-else-eq : goal.returns-else-eq
returns-else-eq c =
    let w = c.args.self in
    let none = sym c.test.ensures ∙ c.in_ok-test.was in
    elim c.else-eq.branch [
      | else-eq-via-then-eq+else-falls v ↦ item_falls w none c.if-self.false c.total.result c.total.ensures (sym v.falls.ensures ∙ v.if-falls.false)
      | else-eq-via-else-eq v ↦ item_sum w none c.if-self.false c.total.result c.total.ensures (search rules)
    ]
