-- `capi_fillet::fillet::partial` meets its contract. Assumes nothing.
use Rattle.std.proofs.Common.{◌≡◌, ap, ap₂, ◌∙◌, rules}
use Rattle.given.specs.Given.{first}
use Rattle.given.proofs.Admission.{allowed, both, answered-0}
use Rattle.capi_fillet.proofs.Tested.{handed-on}
use Rattle.given.specs.Values.{to_vector}
use Rattle.fillet_lists.specs.Records.{info_of}
use Rattle.capi_fillet.specs.Fillet.{partial_into}
use Rattle.capi_fillet.proofs.fillet.partial.Goals as goal

pub returns-in_err-first : goal.returns-in_err-first
unfolding partial_into
returns-in_err-first g c op h =
    let a = c.args in
    let t = c.first-3.ensures ∙ ap₂ first c.test.ensures (c.first-2.ensures ∙ ap₂ first c.test-axes.ensures (c.first.ensures ∙ ap₂ first c.test-angles.ensures c.count.ensures)) in
    let e : c.from_residual.result ≡ c.first-3.result = search rules in
    handed-on a.out.now c.in_err-first.was e t _

pub returns : goal.returns
unfolding partial_into
returns g c op h =
    let a = c.args in
    let t = c.first-3.ensures ∙ ap₂ first c.test.ensures (c.first-2.ensures ∙ ap₂ first c.test-axes.ensures (c.first.ensures ∙ ap₂ first c.test-angles.ensures c.count.ensures)) in
    allowed a.out.now t (answered-0 c.in_ok-first.was) (both c.write.ensures.number c.write.ensures.list ∙ ap (λ w. to_vector.deliver w a.out.now) (h c.info.result c.work.result c.work.ensures ∙ ap op (c.info.ensures ∙ ap (λ d. info_of d (a.axis.order, a.axis.list.now) (a.angle.order, a.angle.list.now)) c.read.ensures)))
