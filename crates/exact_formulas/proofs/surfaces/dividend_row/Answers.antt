-- `exact_formulas::surfaces::dividend_row` meets its contract. Assumes nothing.
use Rattle.std.proofs.Common.{rules, arith, ◌≡◌, ap, ◌∙◌, ◌+◌, ◌-◌, suc, ℤ, ◌-ℤ◌, Ok}
use Rattle.whole.specs.Checked.{formed}
use Rattle.calculus.specs.Kind.{regular}
use Rattle.calculus.specs.Surface.{leibniz}
use Rattle.exact_formulas.specs.Kinds.{checked}
use Rattle.exact_formulas.specs.Entries.{surface_values}
use Rattle.std.proofs.Math.Facts.{to_z-of_z}
use Rattle.calculus.specs.InTurn.{in_turn}
use Rattle.whole.proofs.Range.{tz}
use Rattle.exact_formulas.proofs.Terms.{begins, term-stops, sum-stops, goes-on, handed}
use Rattle.exact_formulas.proofs.surfaces.dividend_row.Goals as goal

pub loop-j-init : goal.loop-j-init
loop-j-init c =
    let z : c.args.from - c.args.from ≡ 0 = omega arith in
    (rw z (begins checked.minus (λ k. leibniz (regular checked) checked.times (surface_values c.args.d.now) (surface_values c.args.q.now) c.args.m c.args.n c.args.i (c.args.from + k))), omega arith)

pub returns-in_err-leibniz_term : goal.returns-in_err-leibniz_term
returns-in_err-leibniz_term c =
    let terms = (leibniz (regular checked) checked.times (surface_values c.args.d.now) (surface_values c.args.q.now) c.args.m c.args.n c.args.i) in
    let at : c.loop-j.j ≡ c.args.from + (c.loop-j.j - c.args.from) = omega arith in
    handed c.from_residual.ensures
    ∙ term-stops (λ x y. formed (x -ℤ y)) (Ok (tz c.args.start)) (λ k. terms (c.args.from + k)) c.loop-j.invariant.0 (omega arith) (c.in_err-leibniz_term.ensures ∙ ap terms at)
    ∙ ap (λ (z : ℤ). in_turn checked.minus (Ok z) (λ k. terms (c.args.from + k)) (suc c.args.n - c.args.from)) (to_z-of_z c.ranges.start)

pub returns-in_err-rest : goal.returns-in_err-rest
returns-in_err-rest c =
    let terms = (leibniz (regular checked) checked.times (surface_values c.args.d.now) (surface_values c.args.q.now) c.args.m c.args.n c.args.i) in
    let at : c.loop-j.j ≡ c.args.from + (c.loop-j.j - c.args.from) = omega arith in
    handed c.from_residual-in_err-rest.ensures
    ∙ sum-stops (λ x y. formed (x -ℤ y)) (Ok (tz c.args.start)) (λ k. terms (c.args.from + k)) c.loop-j.invariant.0 (omega arith) (search rules)
    (c.in_ok-leibniz_term.ensures ∙ ap terms at) c.in_err-rest.ensures
    ∙ ap (λ (z : ℤ). in_turn checked.minus (Ok z) (λ k. terms (c.args.from + k)) (suc c.args.n - c.args.from)) (to_z-of_z c.ranges.start)

pub loop-j-preserved : goal.loop-j-preserved
loop-j-preserved c =
    let terms = (leibniz (regular checked) checked.times (surface_values c.args.d.now) (surface_values c.args.q.now) c.args.m c.args.n c.args.i) in
    let at : c.loop-j.j ≡ c.args.from + (c.loop-j.j - c.args.from) = omega arith in
    let next : c.loop-j.j - c.args.from + 1 ≡ c.loop-j.j + 1 - c.args.from = omega arith in (
      goes-on (λ x y. formed (x -ℤ y)) (Ok (tz c.args.start)) (λ k. terms (c.args.from + k)) c.loop-j.invariant.0 (search rules) (search rules)
          (c.in_ok-leibniz_term.ensures ∙ ap terms at) c.in_ok-rest.ensures
          ∙ ap (in_turn checked.minus (Ok (tz c.args.start)) (λ k. terms (c.args.from + k))) next,
      omega arith,
    )
