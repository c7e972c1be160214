-- `capi_fillet::fillet::rotation` meets its contract. Assumes nothing.
use Rattle.std.proofs.Common.{◌≡◌, ap, ap₂, ◌∙◌, rules}
use Rattle.given.specs.Given.{first}
use Rattle.given.proofs.Admission.{allowed, both, answered-0}
use Rattle.capi_fillet.proofs.Tested.{handed-on}
use Rattle.given.specs.Values.{to_matrix3}
use Rattle.rolling_ball_fillet.specs.Answers.{rotation_answer}
use Rattle.capi_fillet.specs.Fillet.{rotation_into}
use Rattle.capi_fillet.proofs.fillet.rotation.Goals as goal

pub returns-in_err-first : goal.returns-in_err-first
unfolding rotation_into
returns-in_err-first c =
    let a = c.args in
    let t = c.first.ensures ∙ ap₂ first c.orders.ensures (c.first-lists.ensures ∙ ap₂ first c.count.ensures c.count-2.ensures) in
    let e : c.from_residual.result ≡ c.first.result = search rules in
    handed-on a.out.now c.in_err-first.was e t _

pub returns : goal.returns
unfolding rotation_into
returns c =
    let a = c.args in
    let t = c.first.ensures ∙ ap₂ first c.orders.ensures (c.first-lists.ensures ∙ ap₂ first c.count.ensures c.count-2.ensures) in
    allowed a.out.now t (answered-0 c.in_ok-first.was) (both c.write.ensures.number c.write.ensures.list ∙ ap (λ w. to_matrix3.deliver w a.out.now) (c.rot_der_n-answer.ensures ∙ ap (λ v. rotation_answer a.x a.y a.z a.n v a.s a.c) c.vector_at.ensures))
