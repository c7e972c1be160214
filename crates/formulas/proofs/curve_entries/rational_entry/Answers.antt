use Rattle.std.proofs.Common.{◌≡◌, suc, ◌+◌, ◌-◌, refl, ap, ◌∙◌, arith}
use Rattle.calculus.proofs.LoopTerms.{one_more}
use Rattle.calculus.specs.Rational.{rational_term}
use Rattle.calculus.specs.InTurn.{in_turn}
use Rattle.calculus.specs.Kind.{regular}
use Rattle.formulas.specs.Real.{real}
use Rattle.formulas.specs.Numbers.{curve_numbers}
use Rattle.formulas.proofs.curve_entries.rational_entry.Goals as goal

pub loop-i-init : goal.loop-i-init
unfolding in_turn
loop-i-init c = (refl, omega arith)

pub loop-i-preserved : goal.loop-i-preserved
loop-i-preserved c =
    let s = c.args in
    let term = rational_term (regular real) real.over (curve_numbers s.w.now) (curve_numbers s.q.now) s.m in
    let j : c.loop-i.i ≡ suc (c.loop-i.i - 1) = omega arith in
    let k : c.loop-i.i + 1 - 1 ≡ suc (c.loop-i.i - 1) = omega arith in
    (one_more real.plus _ (λ k. term (suc k)) c.loop-i.invariant.0 (c.rational_term-sum.ensures ∙ ap term j) k, omega arith)

pub returns : goal.returns
returns c =
    let s = c.args in
    let e : c.loop-i.i - 1 ≡ s.m - 1 = omega arith in
    ap (λ x. real.over (real.minus (curve_numbers s.x.now s.m) x) (curve_numbers s.w.now 0))
    (c.loop-i.invariant.0 ∙ ap (in_turn real.plus (real.times (curve_numbers s.q.now 0) (curve_numbers s.w.now s.m))
    (λ k. rational_term (regular real) real.over (curve_numbers s.w.now) (curve_numbers s.q.now) s.m (suc k))) e)
