use Rattle.std.proofs.Common.{◌≡◌, ℕ, suc, ap, ap₂, ◌∙◌, get_or, arith}
use Rattle.std.specs.Float.{nan}
use Rattle.calculus.specs.Rational.{surface_rational_term}
use Rattle.calculus.specs.InTurn.{in_rows}
use Rattle.calculus.specs.Kind.{regular}
use Rattle.calculus.specs.Graded.{index}
use Rattle.ieee_vectors.specs.Vectors.{positive_zero}
use Rattle.formulas.specs.Real.{real}
use Rattle.formulas.specs.Numbers.{surface_numbers}
use Rattle.formulas.proofs.surface_entries.rational_entry.Goals as goal

pub returns : goal.returns
unfolding index
returns c =
    let s = c.args in
    let e : c.loop-i.i ≡ suc s.m = omega arith in
    ap₂ (λ x y. real.over (real.minus x y) (get_or s.w.now 0 nan)) c.number_at.ensures
    (c.loop-i.invariant ∙ ap (λ (k : ℕ). in_rows real.plus positive_zero (surface_rational_term (regular real) real.over (surface_numbers s.w.now) (surface_numbers s.q.now) s.m s.n) k (suc s.n)) e)
