-- `exact_formulas::curves::dividend` meets its contract. Assumes nothing.
use Rattle.std.proofs.Common.{rules, arith, ap, ◌∙◌, suc, pos, ◌-ℤ◌, get_or, Ok, FitsSigned, w64}
use Rattle.whole.specs.Checked.{formed}
use Rattle.calculus.specs.Kind.{regular}
use Rattle.calculus.specs.Curve.{leibniz}
use Rattle.exact_formulas.specs.Kinds.{checked}
use Rattle.exact_formulas.specs.Entries.{curve_values}
use Rattle.std.proofs.Math.Facts.{to_z-of_z}
use Rattle.std.proofs.Math.Numerals.{add-one}
use Rattle.exact_formulas.proofs.Terms.{begins, term-stops, sum-stops, goes-on, handed}
use Rattle.exact_formulas.proofs.curves.dividend.Goals as goal

pub loop-i-init : goal.loop-i-init
loop-i-init c =
    let f : FitsSigned w64 (get_or c.args.num.now c.args.m (pos 0)) = search rules in
    ap Ok (to_z-of_z f) ∙ begins checked.minus (λ i. leibniz (regular checked) checked.times (curve_values c.args.d.now) (curve_values c.args.q.now) c.args.m (suc i))

pub returns-in_err-leibniz_term : goal.returns-in_err-leibniz_term
returns-in_err-leibniz_term c =
    let terms = (leibniz (regular checked) checked.times (curve_values c.args.d.now) (curve_values c.args.q.now) c.args.m) in
    handed c.from_residual.ensures
    ∙ term-stops (λ x y. formed (x -ℤ y)) (curve_values c.args.num.now c.args.m) (λ i. terms (suc i)) c.loop-i.invariant (omega arith) (c.in_err-leibniz_term.ensures ∙ ap terms (add-one c.loop-i.i))

pub returns-in_err-rest : goal.returns-in_err-rest
returns-in_err-rest c =
    let terms = (leibniz (regular checked) checked.times (curve_values c.args.d.now) (curve_values c.args.q.now) c.args.m) in
    handed c.from_residual-in_err-rest.ensures
    ∙ sum-stops (λ x y. formed (x -ℤ y)) (curve_values c.args.num.now c.args.m) (λ i. terms (suc i)) c.loop-i.invariant (omega arith) (search rules)
    (c.in_ok-leibniz_term.ensures ∙ ap terms (add-one c.loop-i.i)) c.in_err-rest.ensures

pub loop-i-preserved : goal.loop-i-preserved
loop-i-preserved c =
    let terms = (leibniz (regular checked) checked.times (curve_values c.args.d.now) (curve_values c.args.q.now) c.args.m) in
    goes-on (λ x y. formed (x -ℤ y)) (curve_values c.args.num.now c.args.m) (λ i. terms (suc i)) c.loop-i.invariant (search rules) (search rules)
    (c.in_ok-leibniz_term.ensures ∙ ap terms (add-one c.loop-i.i)) c.in_ok-rest.ensures
