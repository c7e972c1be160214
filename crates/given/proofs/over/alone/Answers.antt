-- `given::alone` meets its contract. Assumes nothing.
use Rattle.std.proofs.Common.{◌≡◌, ap, sym, ◌∙◌, rules}
use Rattle.refusals.specs.Number.{number_of}
use Rattle.given.proofs.Admission.{refused, allowed, both, answered-0, refused-not_0}
use Rattle.given.proofs.over.alone.Goals as goal

pub returns-in_err-tested : goal.returns-in_err-tested
returns-in_err-tested g c =
    let a = c.args in
    let e : c.from_residual.result ≡ c.due-tested.result = search rules in
    refused a.out.now (ap number_of e ∙ c.due-tested.ensures) (g.C.Lent.output.deliver a.answer a.out.now) (λ z. refused-not_0 c.in_err-tested.was (ap number_of (sym e) ∙ z))

pub returns : goal.returns
returns g c = allowed c.args.out.now c.due-tested.ensures (answered-0 c.in_ok-tested.was) (both c.write.ensures.number c.write.ensures.list)
