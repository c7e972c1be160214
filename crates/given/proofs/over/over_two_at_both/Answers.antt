-- `given::over_two_at_both` meets its contract. Assumes nothing.
use Rattle.std.proofs.Common.{◌≡◌, ◌+◌, ℕ, ap, sym, ◌∙◌}
use Rattle.refusals.specs.Number.{number_of}
use Rattle.given.proofs.Admission.{pair, given-sum, over-sum}
use Rattle.given.proofs.over.over_two_at_both.Goals as goal

pub returns-clause-tested : goal.returns-clause-tested
returns-clause-tested g c h =
    let a = c.args in
    let e = given-sum g.A.Listed.input g.B.Listed.input g.C.Lent.output (a.i + a.j) a.m a.a.now a.n a.b.now a.out.now c.saturating_add.ensures in
    c.over_two_at.ensures.tested (λ z. h (sym e ∙ z)) ∙ ap (λ (t : ℕ). pair t a.out.now) e

pub returns-clause-value : goal.returns-clause-value
returns-clause-value g c op h =
    let a = c.args in
    c.over_two_at.ensures.value op h
    ∙ over-sum g.A.Listed.input g.B.Listed.input g.C.Lent.output (a.i + a.j) a.m a.a.now a.n a.b.now a.out.now c.saturating_add.ensures op
