-- `given::over_one` meets its contract. Assumes nothing.
use Rattle.std.proofs.Common.{◌≡◌, ℕ, length, ap, ap₂, sym, ◌∙◌, rules}
use Rattle.refusals.specs.Number.{number_of}
use Rattle.given.specs.Given.{first}
use Rattle.given.proofs.Admission.{both, one-refused, one-worked, answered-0, refused-not_0}
use Rattle.given.proofs.over.over_one.Goals as goal

pub returns-in_err-tested-clause-value : goal.returns-in_err-tested-clause-value
returns-in_err-tested-clause-value g c op h =
    let a = c.args in
    let t = c.first-tested.ensures ∙ ap₂ first c.test.ensures c.due.ensures in
    let e : c.from_residual.result ≡ c.first-tested.result = search rules in
    one-refused g.A.Listed.input g.C.Lent.output a.k op a.n a.a.now a.out.now (ap number_of e ∙ t) (λ z. refused-not_0 c.in_err-tested.was (ap number_of (sym e) ∙ z))

pub returns-clause-value : goal.returns-clause-value
returns-clause-value g c op h =
    let a = c.args in
    let t = c.first-tested.ensures ∙ ap₂ first c.test.ensures c.due.ensures in
    one-worked g.A.Listed.input g.C.Lent.output a.k op a.n a.a.now a.out.now t (answered-0 c.in_ok-tested.was) c.read.ensures (h c.read.result c.work.result c.work.ensures) (both c.write.ensures.number c.write.ensures.list)
