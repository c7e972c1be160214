use Rattle.formulas.proofs.Curves.{numbers-none, numbers_more, numbers-all}
use Rattle.vector_formulas.proofs.VectorCurves.{numbers_of, numbers-formed}
use Rattle.vector_formulas.specs.Vector.{vector_numbers}
use Rattle.std.proofs.Common.{suc, arith, sym, ◌∙◌}
use Rattle.vector_formulas.proofs.entries.numbers.Goals as goal

pub loop-m-init : goal.loop-m-init
loop-m-init c =
    let s = c.args in
    numbers-none (numbers_of s.f (vector_numbers s.a.now) (vector_numbers s.b.now))

pub loop-m-preserved : goal.loop-m-preserved
loop-m-preserved c =
    let l = c.loop-m in
    let s = c.args in
    let x = vector_numbers s.a.now in
    let y = vector_numbers s.b.now in
    numbers_more (numbers_of s.f x y) _ l.invariant (omega arith)
    (numbers-formed s.f x y l.invariant (omega arith) ∙ sym c.number.ensures)

pub returns : goal.returns
returns c =
    let s = c.args in
    numbers-all (numbers_of s.f (vector_numbers s.a.now) (vector_numbers s.b.now)) (suc s.n) c.loop-m.invariant (omega arith)
