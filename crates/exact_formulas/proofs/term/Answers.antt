-- `exact_formulas::term` meets its contract. Assumes nothing.
use Rattle.std.proofs.Common.{rules, arith, ◌<◌, ◌^◌, sym, ap, ap₂, ◌∙◌, ℤ, pos, ◌*ℤ◌, FitsSigned, w64}
use Rattle.std.proofs.Math.Facts.{to_z-of_z, to_z_pos}
use Rattle.whole.specs.Checked.{Whole, formed}
use Rattle.whole.proofs.Range.{formed-in, raw-is}
use Rattle.exact_formulas.specs.Kinds.{checked}
use Rattle.exact_formulas.proofs.Terms.{handed}
use Rattle.exact_formulas.proofs.term.Goals as goal

pub returns-in_err-mul : goal.returns-in_err-mul
returns-in_err-mul c =
    handed c.from_residual.ensures ∙ ap (λ (w : Whole). checked.times w (checked.of_nat c.args.c)) (c.in_err-mul.ensures ∙ raw-is c.ranges.x c.ranges.y (λ x y. formed (x *ℤ y)))

pub returns : goal.returns
returns c =
    let n : c.args.c < 2 ^ 63 = omega arith in
    let fz : FitsSigned w64 c.in_ok-mul.field-0 = search rules in
    c.mul-2.ensures ∙ ap₂ (λ (x y : ℤ). formed (x *ℤ y)) (to_z-of_z fz) (to_z_pos w64 n)
    ∙ ap₂ checked.times (c.in_ok-mul.ensures ∙ raw-is c.ranges.x c.ranges.y (λ x y. formed (x *ℤ y))) (sym (formed-in (pos c.args.c) n))
