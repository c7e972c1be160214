-- `formulas::finite_curve` meets its contract. Assumes nothing.
use Rattle.std.proofs.Common.{◌≡◌, suc, ◌+◌, min, ap, ◌∙◌, arith}
use Rattle.std.specs.Float.{nan}
use Rattle.std.specs.Float.Ieee.Scale.{finite}
use Rattle.formulas.specs.Numbers.{curve_numbers, all_finite}
use Rattle.formulas.proofs.Finite.{passes}
use Rattle.formulas.proofs.finite_curve.Goals as goal

pub returns : goal.returns
returns c =
    let s = c.args in
    let k : c.min.result + 1 ≡ suc (min s.n 20) = omega arith in
    c.each_finite.ensures ∙ passes finite nan s.a.now (c.min.result + 1) (omega arith) ∙ ap (all_finite (curve_numbers s.a.now)) k
