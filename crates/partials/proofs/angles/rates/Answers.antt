use Rattle.formulas.proofs.Curves.{numbers-none, numbers_more, numbers-all}
use Rattle.formulas.specs.Numbers.{curve_numbers}
use Rattle.partials.specs.AxisAngle.{rates}
use Rattle.partials.proofs.Turning.{rate-formed}
use Rattle.std.proofs.Common.{arith, suc, sym, ◌∙◌}
use Rattle.partials.proofs.angles.rates.Goals as goal

pub loop-m-init : goal.loop-m-init
loop-m-init c = numbers-none (rates (curve_numbers c.args.r.now))

pub loop-m-preserved : goal.loop-m-preserved
loop-m-preserved c =
    let s = c.args in
    let l = c.loop-m in
    let f = rates (curve_numbers s.r.now) in
    numbers_more f c.rate.result l.invariant (omega arith) (rate-formed (curve_numbers s.r.now) l.invariant (omega arith) ∙ sym c.rate.ensures)

pub returns : goal.returns
returns c =
    let s = c.args in
    let f = rates (curve_numbers s.r.now) in
    numbers-all f (suc s.n) c.loop-m.invariant (omega arith)
