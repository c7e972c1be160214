-- `partitions::multiplicity` meets its contract: by the tests of a list that is handed in. Assumes nothing.
use Rattle.std.proofs.Common.{◌≡◌, true, false, sym, ap, ◌∙◌, ℕ, Ok, Err, arith, rules}
use Rattle.refusals.specs.declared.Refusal.TheVariants.{OrderAbove20}
use Rattle.partitions.specs.Parts.{total, fact, divide, runs, multiplicity}
use Rattle.partitions.proofs.Slices.{sum_is, sum-high}
use Rattle.partitions.proofs.Counted.{counted-high, counted-by, list-test, no-list}
use Rattle.partitions.proofs.Exact.{list-long}
use Rattle.partitions.proofs.multiplicity.Goals as goal

pub returns-in_err-n : goal.returns-in_err-n
returns-in_err-n c =
    let l = c.args.list.now in
    let is : c.from_residual.result ≡ Err OrderAbove20 = search rules in
    is ∙ sym (counted-high l (sum-high (total l) c.total.ensures (search rules)))

pub over_runs-requires : goal.over_runs-requires
over_runs-requires c =
    let l = c.args.list.now in
    let n = sum_is (total l) c.total.ensures c.in_ok-n.n (search rules) in
    (omega arith, omega (arith, n.0, n.1, list-long l (sym (list-test l (omega arith)) ∙ sym c.falls.ensures ∙ c.if-falls.true)))

pub returns-in-len1-up : goal.returns-in-len1-up
unfolding multiplicity
returns-in-len1-up c =
    let l = c.args.list.now in
    let n = sum_is (total l) c.total.ensures c.in_ok-n.n (search rules) in
    sym (counted-by l true (omega (arith, n.0, n.1)) (sym (list-test l (omega arith)) ∙ sym c.falls.ensures ∙ c.if-falls.true)
    ∙ ap Ok (sym (c.over_runs.ensures ∙ ap (λ (x : ℕ). divide x (runs l)) (c.over_parts-x.ensures ∙ ap (λ (x : ℕ). divide x l) (c.factorial.ensures ∙ ap fact (sym n.0))))))

pub returns-in_default : goal.returns-in_default
returns-in_default c =
    let l = c.args.list.now in
    let n = sum_is (total l) c.total.ensures c.in_ok-n.n (search rules) in
    sym (counted-by l false (omega (arith, n.0, n.1)) (no-list l (omega arith)))

pub returns-in_default-2 : goal.returns-in_default-2
returns-in_default-2 c =
    let l = c.args.list.now in
    let n = sum_is (total l) c.total.ensures c.in_ok-n.n (search rules) in
    sym (counted-by l false (omega (arith, n.0, n.1)) (sym (list-test l (omega arith)) ∙ sym c.falls.ensures ∙ c.if-falls.false))
