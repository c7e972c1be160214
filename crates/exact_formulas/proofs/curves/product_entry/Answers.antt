-- `exact_formulas::curves::product_entry` meets its contract. Assumes nothing.
use Rattle.std.proofs.Common.{rules, arith, ◌∙◌, ◌+ℤ◌}
use Rattle.whole.specs.Checked.{formed}
use Rattle.calculus.specs.Kind.{regular}
use Rattle.calculus.specs.Curve.{leibniz}
use Rattle.exact_formulas.specs.Kinds.{checked}
use Rattle.exact_formulas.specs.Entries.{curve_values}
use Rattle.exact_formulas.proofs.Terms.{begins, term-stops, sum-stops, goes-on, handed}
use Rattle.exact_formulas.proofs.curves.product_entry.Goals as goal

pub loop-i-init : goal.loop-i-init
loop-i-init c = begins checked.plus (leibniz (regular checked) checked.times (curve_values c.args.a.now) (curve_values c.args.b.now) c.args.m)

pub returns-in_err-leibniz_term : goal.returns-in_err-leibniz_term
returns-in_err-leibniz_term c =
    handed c.from_residual.ensures ∙ term-stops (λ x y. formed (x +ℤ y)) checked.zero (leibniz (regular checked) checked.times (curve_values c.args.a.now) (curve_values c.args.b.now) c.args.m) c.loop-i.invariant (omega arith) c.in_err-leibniz_term.ensures

pub returns-in_err-sum : goal.returns-in_err-sum
returns-in_err-sum c =
    handed c.from_residual-in_err-sum.ensures
    ∙ sum-stops (λ x y. formed (x +ℤ y)) checked.zero (leibniz (regular checked) checked.times (curve_values c.args.a.now) (curve_values c.args.b.now) c.args.m) c.loop-i.invariant (omega arith) (search rules) c.in_ok-leibniz_term.ensures c.in_err-sum.ensures

pub loop-i-preserved : goal.loop-i-preserved
loop-i-preserved c = goes-on (λ x y. formed (x +ℤ y)) checked.zero (leibniz (regular checked) checked.times (curve_values c.args.a.now) (curve_values c.args.b.now) c.args.m) c.loop-i.invariant (search rules) (search rules) c.in_ok-leibniz_term.ensures c.in_ok-sum.ensures
