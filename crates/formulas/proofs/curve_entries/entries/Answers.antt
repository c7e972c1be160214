use Rattle.std.proofs.Common.{suc, sym, ◌∙◌, arith}
use Rattle.formulas.proofs.Curves.{numbers-none, numbers_more, numbers-all, curve_of, curve-formed}
use Rattle.formulas.specs.Numbers.{curve_numbers}
use Rattle.formulas.proofs.curve_entries.entries.Goals as goal

pub loop-m-init : goal.loop-m-init
loop-m-init c = numbers-none (curve_of c.args.f (curve_numbers c.args.a.now) (curve_numbers c.args.b.now))

pub loop-m-preserved : goal.loop-m-preserved
loop-m-preserved c =
    let s = c.args in
    let x = curve_numbers s.a.now in
    let y = curve_numbers s.b.now in
    numbers_more (curve_of s.f x y) _ c.loop-m.invariant (omega arith) (curve-formed s.f x y c.loop-m.invariant (omega arith) ∙ sym c.entry.ensures)

pub returns : goal.returns
returns c =
    let s = c.args in
    numbers-all (curve_of s.f (curve_numbers s.a.now) (curve_numbers s.b.now)) (suc s.n) c.loop-m.invariant (omega arith)
