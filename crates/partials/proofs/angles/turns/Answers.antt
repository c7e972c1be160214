use Rattle.formulas.proofs.Curves.{numbers-none, numbers_more, numbers-all}
use Rattle.formulas.specs.Numbers.{curve_numbers}
use Rattle.partials.specs.AxisAngle.{turns}
use Rattle.partials.proofs.Turning.{turn-formed}
use Rattle.std.proofs.Common.{arith, sym, ◌∙◌}
use Rattle.partials.proofs.angles.turns.Goals as goal

pub loop-m-init : goal.loop-m-init
loop-m-init c =
    let s = c.args in
    numbers-none (turns (curve_numbers s.rate.now) (curve_numbers s.dot.now) (curve_numbers s.length.now))

pub loop-m-preserved : goal.loop-m-preserved
loop-m-preserved c =
    let s = c.args in
    let l = c.loop-m in
    let rate = curve_numbers s.rate.now in
    let dot = curve_numbers s.dot.now in
    let length = curve_numbers s.length.now in
    numbers_more (turns rate dot length) c.turn.result l.invariant (omega arith) (turn-formed rate dot length l.invariant (omega arith) ∙ sym c.turn.ensures)

pub returns : goal.returns
returns c =
    let s = c.args in
    let f = turns (curve_numbers s.rate.now) (curve_numbers s.dot.now) (curve_numbers s.length.now) in
    numbers-all f s.n c.loop-m.invariant (omega arith)
