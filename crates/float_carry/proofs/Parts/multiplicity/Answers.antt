-- `float_carry::Parts::multiplicity` meets its contract. Assumes nothing.
use Rattle.std.proofs.Common.{◌≡◌, T, pos, sym, ap, ◌∙◌, subst}
use Rattle.std.specs.Float.{binary64}
use Rattle.std.specs.Float.Ieee.{in_float}
use Rattle.std.specs.Result.{result_unwrap_or}
use Rattle.partitions.specs.Parts.{multiplicity}
use Rattle.calculus.proofs.LoopWalking.{counted-list}
use Rattle.formulas.specs.Real.{real}
use Rattle.float_carry.proofs.Counts.{multiplicity-below, held}
use Rattle.float_carry.proofs.Parts.multiplicity.Goals as goal

pub int_to_float-result : goal.int_to_float-result
int_to_float-result c =
    let p = c.args.self.now in
    let same : c.unwrap_or.result ≡ multiplicity p.list.now = c.unwrap_or.ensures ∙ ap (λ r. result_unwrap_or r 0) (c.multiplicity.ensures ∙ counted-list p.list.now p.falling p.small) in
    subst (λ n. T (in_float binary64 (pos n))) (sym same) (held _ (multiplicity-below p.list.now p.falling p.small))

pub returns : goal.returns
returns c =
    let p = c.args.self.now in
    let same : c.unwrap_or.result ≡ multiplicity p.list.now = c.unwrap_or.ensures ∙ ap (λ r. result_unwrap_or r 0) (c.multiplicity.ensures ∙ counted-list p.list.now p.falling p.small) in
    ap real.of_nat same
