-- `exact_carry::Parts::multiplicity` meets its contract. Assumes nothing.
use Rattle.std.proofs.Common.{◌≡◌, sym, ap, ◌∙◌, arith, pos, Ok, FitsSigned, w64}
use Rattle.std.proofs.Math.Facts.{to_z-of_z}
use Rattle.std.specs.Result.{result_unwrap_or}
use Rattle.partitions.specs.Parts.{multiplicity}
use Rattle.calculus.proofs.LoopWalking.{counted-list, multiplicity-fits}
use Rattle.exact_carry.proofs.Masks.{coefficient-formed}
use Rattle.exact_carry.proofs.Parts.multiplicity.Goals as goal

pub overflow_cast-result : goal.overflow_cast-result
overflow_cast-result c =
    let p = c.args.self.now in
    let same : c.unwrap_or.result ≡ multiplicity p.list.now = c.unwrap_or.ensures ∙ ap (λ r. result_unwrap_or r 0) (c.multiplicity.ensures ∙ counted-list p.list.now p.falling p.small) in
    record { sfits = omega (arith, same, multiplicity-fits p.list.now p.small) }

pub returns : goal.returns
returns c =
    let p = c.args.self.now in
    let same : c.unwrap_or.result ≡ multiplicity p.list.now = c.unwrap_or.ensures ∙ ap (λ r. result_unwrap_or r 0) (c.multiplicity.ensures ∙ counted-list p.list.now p.falling p.small) in
    let fits : FitsSigned w64 (pos c.unwrap_or.result) = record { sfits = omega (arith, same, multiplicity-fits p.list.now p.small) } in
    ap Ok (to_z-of_z fits) ∙ ap (λ n. Ok (pos n)) same ∙ sym (coefficient-formed p.list.now p.small)
