-- `capi_fillet::fillet::contacts` meets its contract. Assumes nothing.
use Rattle.std.proofs.Common.{◌≡◌, ap, ap₂, ◌∙◌, rules}
use Rattle.given.specs.Given.{first}
use Rattle.given.proofs.Admission.{allowed, answered-0}
use Rattle.capi_fillet.proofs.Tested.{handed-on}
use Rattle.rolling_ball_fillet.specs.Center.{center_contact_answer}
use Rattle.fillet_lists.specs.Delivery.{deliver_contacts}
use Rattle.capi_fillet.specs.Fillet.{contacts_into}
use Rattle.capi_fillet.proofs.fillet.contacts.Goals as goal

pub returns-in_err-first : goal.returns-in_err-first
unfolding contacts_into
returns-in_err-first c =
    let a = c.args in
    let t = c.first.ensures ∙ ap₂ first c.test.ensures c.lent-lent.ensures in
    let e : c.from_residual.result ≡ c.first.result = search rules in
    handed-on (a.center.now, (a.contact0.now, (a.contact1.now, (a.uv0.now, a.uv1.now)))) c.in_err-first.was e t _

pub returns : goal.returns
unfolding contacts_into
returns c =
    let a = c.args in
    let t = c.first.ensures ∙ ap₂ first c.test.ensures c.lent-lent.ensures in
    allowed (a.center.now, (a.contact0.now, (a.contact1.now, (a.uv0.now, a.uv1.now)))) t (answered-0 c.in_ok-first.was) (c.deliver_contacts.ensures ∙ ap (λ w. deliver_contacts w (a.center.now, (a.contact0.now, (a.contact1.now, (a.uv0.now, a.uv1.now))))) (c.sub_center_contacts_ders-answer.ensures ∙ ap₂ (λ f o. center_contact_answer f o a.n) c.surface.ensures c.contact_circle.ensures))
