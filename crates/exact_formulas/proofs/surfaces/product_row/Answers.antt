-- `exact_formulas::surfaces::product_row` meets its contract. Assumes nothing.
use Rattle.std.proofs.Common.{rules, arith, ap, ◌∙◌, suc, ℤ, ◌+ℤ◌, Ok}
use Rattle.whole.specs.Checked.{formed}
use Rattle.calculus.specs.Kind.{regular}
use Rattle.calculus.specs.Surface.{leibniz}
use Rattle.exact_formulas.specs.Kinds.{checked}
use Rattle.exact_formulas.specs.Entries.{surface_values}
use Rattle.std.proofs.Math.Facts.{to_z-of_z}
use Rattle.calculus.specs.InTurn.{in_turn}
use Rattle.whole.proofs.Range.{tz}
use Rattle.exact_formulas.proofs.Terms.{begins, term-stops, sum-stops, goes-on, handed}
use Rattle.exact_formulas.proofs.surfaces.product_row.Goals as goal

pub loop-j-init : goal.loop-j-init
loop-j-init c = begins checked.plus (leibniz (regular checked) checked.times (surface_values c.args.a.now) (surface_values c.args.b.now) c.args.m c.args.n c.args.i)

pub returns-in_err-leibniz_term : goal.returns-in_err-leibniz_term
returns-in_err-leibniz_term c =
    handed c.from_residual.ensures ∙ term-stops (λ x y. formed (x +ℤ y)) (Ok (tz c.args.start)) (leibniz (regular checked) checked.times (surface_values c.args.a.now) (surface_values c.args.b.now) c.args.m c.args.n c.args.i) c.loop-j.invariant (omega arith) c.in_err-leibniz_term.ensures
    ∙ ap (λ (z : ℤ). in_turn checked.plus (Ok z) (leibniz (regular checked) checked.times (surface_values c.args.a.now) (surface_values c.args.b.now) c.args.m c.args.n c.args.i) (suc c.args.n)) (to_z-of_z c.ranges.start)

pub returns-in_err-sum : goal.returns-in_err-sum
returns-in_err-sum c =
    handed c.from_residual-in_err-sum.ensures
    ∙ sum-stops (λ x y. formed (x +ℤ y)) (Ok (tz c.args.start)) (leibniz (regular checked) checked.times (surface_values c.args.a.now) (surface_values c.args.b.now) c.args.m c.args.n c.args.i) c.loop-j.invariant (omega arith) (search rules) c.in_ok-leibniz_term.ensures c.in_err-sum.ensures
    ∙ ap (λ (z : ℤ). in_turn checked.plus (Ok z) (leibniz (regular checked) checked.times (surface_values c.args.a.now) (surface_values c.args.b.now) c.args.m c.args.n c.args.i) (suc c.args.n)) (to_z-of_z c.ranges.start)

pub loop-j-preserved : goal.loop-j-preserved
loop-j-preserved c = goes-on (λ x y. formed (x +ℤ y)) (Ok (tz c.args.start)) (leibniz (regular checked) checked.times (surface_values c.args.a.now) (surface_values c.args.b.now) c.args.m c.args.n c.args.i) c.loop-j.invariant (search rules) (search rules) c.in_ok-leibniz_term.ensures c.in_ok-sum.ensures
