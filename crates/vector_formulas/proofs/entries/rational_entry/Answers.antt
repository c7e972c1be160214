use Rattle.calculus.proofs.LoopTerms.{one_more}
use Rattle.calculus.specs.InTurn.{in_turn}
use Rattle.formulas.specs.Numbers.{curve_numbers}
use Rattle.vector_formulas.specs.Vector.{vectors, vector_numbers}
use Rattle.calculus.specs.Rational.{rational_term}
use Rattle.ieee_vectors.specs.Vectors.{multiple, quotient}
use Rattle.std.proofs.Common.{suc, ◌+◌, ◌-◌, arith, ◌≡◌, ap, ap₂, ◌∙◌}
use Rattle.vector_formulas.proofs.entries.rational_entry.Goals as goal

pub loop-i-init : goal.loop-i-init
unfolding in_turn
loop-i-init c = (c.mul-sum.ensures ∙ ap (λ v. multiple v (curve_numbers c.args.w.now c.args.m)) c.vector_at-first.ensures, omega arith)

pub loop-i-preserved : goal.loop-i-preserved
loop-i-preserved c =
    let s = c.args in
    let j : c.loop-i.i ≡ suc (c.loop-i.i - 1) = omega arith in
    let k : c.loop-i.i + 1 - 1 ≡ suc (c.loop-i.i - 1) = omega arith in (
      c.add-sum.ensures ∙ one_more vectors.plus _ (λ k. rational_term vectors quotient (curve_numbers s.w.now) (vector_numbers s.q.now) s.m (suc k)) c.loop-i.invariant.0
          (c.rational_term.ensures ∙ ap (rational_term vectors quotient (curve_numbers s.w.now) (vector_numbers s.q.now) s.m) j) k,
      omega arith,
    )

pub returns : goal.returns
returns c =
    let s = c.args in
    let e : c.loop-i.i - 1 ≡ s.m - 1 = omega arith in
    c.unchecked_div.ensures ∙ ap (λ x. quotient x (curve_numbers s.w.now 0))
    (c.sub-d.ensures ∙ ap₂ vectors.minus c.vector_at-e.ensures
    (c.loop-i.invariant.0 ∙ ap (in_turn vectors.plus (multiple (vector_numbers s.q.now 0) (curve_numbers s.w.now s.m)) (λ k. rational_term vectors quotient (curve_numbers s.w.now) (vector_numbers s.q.now) s.m (suc k))) e))
