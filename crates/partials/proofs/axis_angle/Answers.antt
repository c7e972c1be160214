-- `axis_angle` meets its contract: either arm answers what the test picks. Assumes nothing.
use Rattle.std.proofs.Common.{arith, ◌≤◌, sym, ap, ◌∙◌}
use Rattle.formulas.specs.Numbers.{curve_numbers}
use Rattle.partials.specs.AxisAngle.{axis_angle}
use Rattle.partials.proofs.Turning.{refused, answered}
use Rattle.partials.proofs.axis_angle.Goals as goal

pub returns-then-division_by_zero : goal.returns-then-division_by_zero
returns-then-division_by_zero c =
    let a = c.args in
    let r = curve_numbers a.r.now in
    let small : c.min-n.result ≤ 20 = omega arith in
    refused a.center.now a.contact0.now a.contact1.now r a.angle c.min-n.result small c.arm-p.ensures c.arm-q.ensures c.crosses-cross.ensures c.norm-length.ensures
    (sym c.division_by_zero.ensures ∙ c.if-division_by_zero.true)
    ∙ ap (axis_angle a.center.now a.contact0.now a.contact1.now r a.angle) c.min-n.ensures

pub returns : goal.returns
returns c =
    let a = c.args in
    let r = curve_numbers a.r.now in
    let small : c.min-n.result ≤ 20 = omega arith in
    answered a.center.now a.contact0.now a.contact1.now r a.angle c.min-n.result small c.arm-p.ensures c.arm-q.ensures c.crosses-cross.ensures c.norm-length.ensures
    (sym c.division_by_zero.ensures ∙ c.if-division_by_zero.false) c.rational-axis.ensures c.angles-angle.ensures c.cosine-cosine.ensures
    ∙ ap (axis_angle a.center.now a.contact0.now a.contact1.now r a.angle) c.min-n.ensures
