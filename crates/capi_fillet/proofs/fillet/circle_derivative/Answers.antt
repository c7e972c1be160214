-- `capi_fillet::fillet::circle_derivative` meets its contract. Assumes nothing.
use Rattle.std.proofs.Common.{◌≡◌, ap, ap₂, ◌∙◌, rules}
use Rattle.given.specs.Given.{first}
use Rattle.given.proofs.Admission.{allowed, both, answered-0}
use Rattle.capi_fillet.proofs.Tested.{handed-on}
use Rattle.given.specs.Values.{to_vector}
use Rattle.rolling_ball_fillet.specs.Answers.{derivative_answer}
use Rattle.capi_fillet.specs.Fillet.{circle_into}
use Rattle.capi_fillet.proofs.fillet.circle_derivative.Goals as goal

pub returns-in_err-first : goal.returns-in_err-first
unfolding circle_into
returns-in_err-first c =
    let a = c.args in
    let t = c.first.ensures ∙ ap₂ first c.order.ensures (c.first-lists.ensures ∙ ap₂ first c.count.ensures c.count-2.ensures) in
    let e : c.from_residual.result ≡ c.first.result = search rules in
    handed-on a.out.now c.in_err-first.was e t _

pub returns : goal.returns
unfolding circle_into
returns c =
    let a = c.args in
    let t = c.first.ensures ∙ ap₂ first c.order.ensures (c.first-lists.ensures ∙ ap₂ first c.count.ensures c.count-2.ensures) in
    allowed a.out.now t (answered-0 c.in_ok-first.was) (both c.write.ensures.number c.write.ensures.list ∙ ap (λ w. to_vector.deliver w a.out.now) (c.derivative_n-answer.ensures ∙ ap (λ o. derivative_answer o a.n a.s a.c) c.circle.ensures))
