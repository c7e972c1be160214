-- `exact_formulas::surfaces::dividend` meets its contract. Assumes nothing.
use Rattle.std.proofs.Common.{rules, arith, ap, ◌∙◌, ℕ, ◌+◌, suc, ℤ, pos, ◌-ℤ◌, get_or, Ok, FitsSigned, w64, to_z}
use Rattle.whole.specs.Checked.{formed}
use Rattle.calculus.specs.Kind.{regular}
use Rattle.calculus.specs.Surface.{leibniz}
use Rattle.exact_formulas.specs.Kinds.{checked}
use Rattle.exact_formulas.specs.Entries.{surface_values}
use Rattle.std.proofs.Math.Facts.{to_z-of_z}
use Rattle.std.proofs.Math.Numerals.{add-one}
use Rattle.calculus.specs.InTurn.{in_turn, in_rows}
use Rattle.whole.proofs.Range.{tz}
use Rattle.exact_formulas.proofs.Terms.{from_zero, from_one, refused-rows, row-stops, row-goes-on, handed}
use Rattle.exact_formulas.proofs.surfaces.dividend.Goals as goal

pub returns-in_err-rest : goal.returns-in_err-rest
returns-in_err-rest c =
    let terms = (leibniz (regular checked) checked.times (surface_values c.args.d.now) (surface_values c.args.q.now) c.args.m c.args.n) in
    let z = get_or c.args.num.now c.index.result (pos 0) in
    let f : FitsSigned w64 z = search rules in
    handed c.from_residual.ensures
    ∙ refused-rows (λ x y. formed (x -ℤ y)) (λ i. terms (suc i)) c.in_err-rest.field-0.0 c.args.m (suc c.args.n) (
    c.in_err-rest.ensures ∙ from_one checked.minus (Ok (tz z)) (terms 0) c.args.n
    ∙ ap (λ (y : ℤ). in_turn checked.minus (Ok y) (λ j. terms 0 (suc j)) c.args.n) (to_z-of_z f ∙ ap (λ (k : ℕ). get_or c.args.num.now k (pos 0)) c.index.ensures.value)
    )

pub loop-i-init : goal.loop-i-init
unfolding in_rows
loop-i-init c =
    let terms = (leibniz (regular checked) checked.times (surface_values c.args.d.now) (surface_values c.args.q.now) c.args.m c.args.n) in
    let z = get_or c.args.num.now c.index.result (pos 0) in
    let f : FitsSigned w64 z = search rules in
    let g : FitsSigned w64 c.in_ok-rest.rest = search rules in
    ap Ok (to_z-of_z g)
    ∙ c.in_ok-rest.ensures ∙ from_one checked.minus (Ok (tz z)) (terms 0) c.args.n
    ∙ ap (λ (y : ℤ). in_turn checked.minus (Ok y) (λ j. terms 0 (suc j)) c.args.n) (to_z-of_z f ∙ ap (λ (k : ℕ). get_or c.args.num.now k (pos 0)) c.index.ensures.value)

pub returns-in_err-rest-2 : goal.returns-in_err-rest-2
returns-in_err-rest-2 c =
    let terms = (leibniz (regular checked) checked.times (surface_values c.args.d.now) (surface_values c.args.q.now) c.args.m c.args.n) in
    handed c.from_residual-in_err-rest-2.ensures
    ∙ row-stops (λ x y. formed (x -ℤ y)) (in_turn checked.minus (surface_values c.args.num.now c.args.m c.args.n) (λ j. terms 0 (suc j)) c.args.n) (λ i. terms (suc i)) (suc c.args.n) c.loop-i.i c.loop-i.invariant (omega arith)
    (c.in_err-rest-2.ensures ∙ from_zero checked.minus (Ok (to_z w64 c.loop-i.rest-bits)) (terms (c.loop-i.i + 1)) c.args.n
    ∙ ap (λ (k : ℕ). in_turn checked.minus (Ok (to_z w64 c.loop-i.rest-bits)) (terms k) (suc c.args.n)) (add-one c.loop-i.i))

pub loop-i-preserved : goal.loop-i-preserved
loop-i-preserved c =
    let terms = (leibniz (regular checked) checked.times (surface_values c.args.d.now) (surface_values c.args.q.now) c.args.m c.args.n) in
    row-goes-on (λ x y. formed (x -ℤ y)) (in_turn checked.minus (surface_values c.args.num.now c.args.m c.args.n) (λ j. terms 0 (suc j)) c.args.n) (λ i. terms (suc i)) (suc c.args.n) c.loop-i.i c.loop-i.invariant (search rules)
    (c.in_ok-rest-2.ensures ∙ from_zero checked.minus (Ok (to_z w64 c.loop-i.rest-bits)) (terms (c.loop-i.i + 1)) c.args.n
    ∙ ap (λ (k : ℕ). in_turn checked.minus (Ok (to_z w64 c.loop-i.rest-bits)) (terms k) (suc c.args.n)) (add-one c.loop-i.i))
