-- `capi_fillet::fillet::sub_der` meets its contract. Assumes nothing.
use Rattle.std.proofs.Common.{◌≡◌, ap, ap₂, ◌∙◌, rules}
use Rattle.given.specs.Given.{first}
use Rattle.given.proofs.Admission.{allowed, both, answered-0}
use Rattle.capi_fillet.proofs.Tested.{handed-on}
use Rattle.given.specs.Values.{to_vector}
use Rattle.rolling_ball_fillet.specs.SubDer.{sub_der_mn}
use Rattle.capi_fillet.specs.Fillet.{sub_der_into}
use Rattle.capi_fillet.proofs.fillet.sub_der.Goals as goal

pub returns-in_err-first : goal.returns-in_err-first
unfolding sub_der_into
returns-in_err-first c =
    let a = c.args in
    let t = c.first-2.ensures ∙ ap₂ first c.test.ensures (c.first-pair.ensures ∙ ap₂ first c.order.ensures (c.first.ensures ∙ ap₂ first c.order-2.ensures c.count.ensures)) in
    let e : c.from_residual.result ≡ c.first-2.result = search rules in
    handed-on a.out.now c.in_err-first.was e t _

pub returns : goal.returns
unfolding sub_der_into
returns c =
    let a = c.args in
    let t = c.first-2.ensures ∙ ap₂ first c.test.ensures (c.first-pair.ensures ∙ ap₂ first c.order.ensures (c.first.ensures ∙ ap₂ first c.order-2.ensures c.count.ensures)) in
    allowed a.out.now t (answered-0 c.in_ok-first.was) (both c.write.ensures.number c.write.ensures.list ∙ ap (λ w. to_vector.deliver w a.out.now) (c.sub_der_mn-answer.ensures ∙ ap₂ (λ f o. sub_der_mn f a.m a.n a.u o a.angle a.s a.c) c.surface.ensures c.contact_circle.ensures))
