-- `exact_carry::Carried::summand` meets its contract. Assumes nothing.
use Rattle.std.proofs.Common.{rules, ap, ap₂, ◌∙◌, ◌*ℤ◌, FitsSigned, w64}
use Rattle.partitions.specs.Parts.{multiplicity}
use Rattle.whole.specs.Checked.{Whole, formed}
use Rattle.whole.proofs.Range.{raw-is}
use Rattle.exact_formulas.specs.Kinds.{checked}
use Rattle.exact_formulas.proofs.Terms.{handed}
use Rattle.exact_carry.proofs.Carried.summand.Goals as goal

pub returns-in_err-sum : goal.returns-in_err-sum
returns-in_err-sum c =
    handed c.from_residual.ensures ∙ ap (λ (w : Whole). checked.times w (checked.of_nat (multiplicity c.args.parts.now.list.now))) c.in_err-sum.ensures

pub returns : goal.returns
returns c =
    let fs : FitsSigned w64 c.in_ok-sum.sum = search rules in
    let fm : FitsSigned w64 c.multiplicity-coefficient.result = search rules in
    c.mul.ensures ∙ raw-is fs fm (λ x y. formed (x *ℤ y)) ∙ ap₂ checked.times c.in_ok-sum.ensures c.multiplicity-coefficient.ensures
