use Rattle.std.proofs.Common.{add-one, ap, ◌∙◌}
use Rattle.ieee_vectors.specs.Matrices.{sum3}
use Rattle.calculus.proofs.LoopTerms.{one_more}
use Rattle.partials.specs.Parameters.{place}
use Rattle.partials.specs.Partials.{two_term}
use Rattle.partials.proofs.Placed.{placed}
use Rattle.partials.proofs.rotations.row.Goals as goal

pub loop-j-preserved : goal.loop-j-preserved
loop-j-preserved c =
    let s = c.args in
    let j = c.loop-j.j-index in
    let f = two_term s.turn.axis s.turn.angle.s s.turn.angle.c s.a.axis s.a.angle (place s.i) in
    c.add-sum.ensures ∙ one_more sum3 s.from f c.loop-j.invariant (c.two_term.ensures ∙ ap f (placed j c.loop-j-test.true)) (add-one j)
