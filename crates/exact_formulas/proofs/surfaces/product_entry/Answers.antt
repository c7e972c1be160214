-- `exact_formulas::surfaces::product_entry` meets its contract. Assumes nothing.
use Rattle.std.proofs.Common.{rules, arith, ◌∙◌, suc, ◌+ℤ◌}
use Rattle.whole.specs.Checked.{formed}
use Rattle.calculus.specs.Kind.{regular}
use Rattle.calculus.specs.Surface.{leibniz}
use Rattle.exact_formulas.specs.Kinds.{checked}
use Rattle.exact_formulas.specs.Entries.{surface_values}
use Rattle.exact_formulas.proofs.Terms.{begins-rows, row-stops, row-goes-on, handed}
use Rattle.exact_formulas.proofs.surfaces.product_entry.Goals as goal

pub loop-i-init : goal.loop-i-init
loop-i-init c = begins-rows checked.plus (leibniz (regular checked) checked.times (surface_values c.args.a.now) (surface_values c.args.b.now) c.args.m c.args.n) (suc c.args.n)

pub returns-in_err-sum : goal.returns-in_err-sum
returns-in_err-sum c =
    handed c.from_residual.ensures ∙ row-stops (λ x y. formed (x +ℤ y)) checked.zero (leibniz (regular checked) checked.times (surface_values c.args.a.now) (surface_values c.args.b.now) c.args.m c.args.n) (suc c.args.n) c.loop-i.i c.loop-i.invariant (omega arith) c.in_err-sum.ensures

pub loop-i-preserved : goal.loop-i-preserved
loop-i-preserved c = row-goes-on (λ x y. formed (x +ℤ y)) checked.zero (leibniz (regular checked) checked.times (surface_values c.args.a.now) (surface_values c.args.b.now) c.args.m c.args.n) (suc c.args.n) c.loop-i.i c.loop-i.invariant (search rules) c.in_ok-sum.ensures
