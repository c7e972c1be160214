use Rattle.std.proofs.Common.{ℕ, ◌+◌, drop, sym, ap, ◌∙◌, add_assoc}
use Rattle.roads.specs.Recipe.{names_earlier}
use Rattle.roads.proofs.Tests.{names-left, names-right, names-later, names-none}
use Rattle.roads.proofs.checks.names_earlier.Goals as goal
use Rattle.roads.proofs.checks.names_earlier.Goals.{then-inputs-i-via-then-inputs-i, then-inputs-i-via-else-inputs-i+then-inputs-i-2}

pub returns-then-inputs-i : goal.returns-then-inputs-i
returns-then-inputs-i c =
    let a = c.args in
    let i = c.loop-i.i in
    let l = c.loop-i-test.true in
    elim c.then-inputs-i.branch [
      | then-inputs-i-via-then-inputs-i w ↦ sym (names-left a.program.now _ i (a.inputs + i) l w.if-inputs-i.true) ∙ c.loop-i.invariant
      | then-inputs-i-via-else-inputs-i+then-inputs-i-2 w ↦ sym (names-right a.program.now _ i (a.inputs + i) l w.if-inputs-i.false w.if-inputs-i-2.true) ∙ c.loop-i.invariant
    ]

pub loop-i-preserved : goal.loop-i-preserved
loop-i-preserved c =
    let a = c.args in
    let i = c.loop-i.i in
    ap (λ (m : ℕ). names_earlier m (drop (i + 1) a.program.now)) (sym (add_assoc a.inputs i 1))
    ∙ sym (names-later a.program.now _ i (a.inputs + i) c.loop-i-test.true c.if-inputs-i.false c.if-inputs-i-2.false) ∙ c.loop-i.invariant

pub returns : goal.returns
returns c = let a = c.args in sym (names-none a.program.now c.loop-i.i (a.inputs + c.loop-i.i) c.loop-i-test.false) ∙ c.loop-i.invariant
