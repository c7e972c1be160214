-- `capi_fillet::fillet::info` meets its contract. Assumes nothing.
use Rattle.std.proofs.Common.{◌≡◌, ap, ap₂, ◌∙◌, rules}
use Rattle.given.specs.Given.{first}
use Rattle.given.proofs.Admission.{allowed, answered-0}
use Rattle.capi_fillet.proofs.Tested.{handed-on}
use Rattle.rolling_ball_fillet.specs.PartialAnswer.{vder_info_answer}
use Rattle.fillet_lists.specs.Delivery.{deliver_info}
use Rattle.capi_fillet.specs.Fillet.{vder_info_into}
use Rattle.capi_fillet.proofs.fillet.info.Goals as goal

pub returns-in_err-first : goal.returns-in_err-first
unfolding vder_info_into
returns-in_err-first c =
    let a = c.args in
    let t = c.first-3.ensures ∙ ap₂ first c.test.ensures (c.first-2.ensures ∙ ap₂ first c.test-radii.ensures (c.first-lent.ensures ∙ ap₂ first c.due.ensures (c.first.ensures ∙ ap₂ first c.due-2.ensures c.count.ensures))) in
    let e : c.from_residual.result ≡ c.first-3.result = search rules in
    handed-on (a.axis_out.now, (a.angle_out.now, a.cosine_out.now)) c.in_err-first.was e t _

pub returns : goal.returns
unfolding vder_info_into
returns c =
    let a = c.args in
    let t = c.first-3.ensures ∙ ap₂ first c.test.ensures (c.first-2.ensures ∙ ap₂ first c.test-radii.ensures (c.first-lent.ensures ∙ ap₂ first c.due.ensures (c.first.ensures ∙ ap₂ first c.due-2.ensures c.count.ensures))) in
    allowed (a.axis_out.now, (a.angle_out.now, a.cosine_out.now)) t (answered-0 c.in_ok-first.was) (c.deliver_info.ensures ∙ ap (λ w. deliver_info w (a.axis_out.now, (a.angle_out.now, a.cosine_out.now))) (c.vder_info-answer.ensures ∙ ap₂ (λ d r. vder_info_answer d r a.angle) c.read.ensures c.read-2.ensures))
