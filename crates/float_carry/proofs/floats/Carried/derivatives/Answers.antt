use Rattle.std.proofs.Common.{suc, sym, ap, ◌∙◌, arith}
use Rattle.calculus.specs.Array.{curve_array}
use Rattle.ieee_vectors.specs.Vectors.{positive_zero}
use Rattle.formulas.proofs.Curves.{numbers-none, numbers_more, numbers-all}
use Rattle.float_carry.proofs.Carries.{carried_jet}
use Rattle.float_carry.proofs.floats.Carried.derivatives.Goals as goal

pub loop-m-init : goal.loop-m-init
loop-m-init c = numbers-none (carried_jet c.args.self.now.entries.now c.args.self.now.u.now c.args.self.now.v.now)

pub loop-m-preserved : goal.loop-m-preserved
loop-m-preserved c =
    numbers_more (carried_jet c.args.self.now.entries.now c.args.self.now.u.now c.args.self.now.v.now) _ c.loop-m.invariant (omega arith) (sym c.entry.ensures)

pub returns : goal.returns
returns c =
    let f = carried_jet c.args.self.now.entries.now c.args.self.now.u.now c.args.self.now.v.now in
    numbers-all f (suc c.min-n.result) c.loop-m.invariant (omega arith) ∙ ap (curve_array positive_zero f) c.min-n.ensures
