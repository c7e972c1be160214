use Rattle.std.proofs.Common.{add-one, ap, ◌∙◌}
use Rattle.ieee_vectors.specs.Matrices.{sum3}
use Rattle.calculus.proofs.LoopTerms.{one_more}
use Rattle.rodrigues.specs.Rotation.{zeros}
use Rattle.partials.specs.Partials.{one_term}
use Rattle.partials.proofs.Placed.{placed}
use Rattle.partials.proofs.rotations.one_terms.Goals as goal

pub loop-i-preserved : goal.loop-i-preserved
loop-i-preserved c =
    let s = c.args in
    let i = c.loop-i.i-index in
    let f = one_term s.turn.axis s.turn.angle.s s.turn.angle.c s.a.axis s.a.angle in
    c.add-sum.ensures ∙ one_more sum3 zeros f c.loop-i.invariant (c.one_term.ensures ∙ ap f (placed i c.loop-i-test.true)) (add-one i)
