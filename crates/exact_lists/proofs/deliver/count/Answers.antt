-- `exact_lists::deliver::count` meets its contract. Assumes nothing.
use Rattle.std.proofs.Common.{◌≡◌, ap, ap₂, sym, ◌∙◌, rules}
use Rattle.refusals.specs.Number.{number_of}
use Rattle.given.specs.Given.{first}
use Rattle.given.specs.Lists.{alone}
use Rattle.given.specs.Values.{to_count}
use Rattle.given.proofs.Admission.{refused, allowed, answered-0, refused-not_0}
use Rattle.exact_lists.proofs.Numbers.{count_alone, count-number}
use Rattle.exact_lists.proofs.deliver.count.Goals as goal

pub returns-in_err-first : goal.returns-in_err-first
returns-in_err-first c =
    let a = c.args in
    let t = c.first.ensures ∙ ap₂ first (ap number_of c.and.ensures ∙ count-number a.answer) c.count.ensures in
    let e : c.from_residual.result ≡ c.first.result = search rules in
    refused a.out.now (ap number_of e ∙ t) (alone to_count a.answer a.out.now) (λ z. refused-not_0 c.in_err-first.was (ap number_of (sym e) ∙ z))
    ∙ count_alone a.answer a.out.now

pub returns : goal.returns
returns c =
    let a = c.args in
    let t = c.first.ensures ∙ ap₂ first (ap number_of c.and.ensures ∙ count-number a.answer) c.count.ensures in
    allowed a.out.now t (answered-0 c.in_ok-first.was) c.alone.ensures ∙ count_alone a.answer a.out.now
