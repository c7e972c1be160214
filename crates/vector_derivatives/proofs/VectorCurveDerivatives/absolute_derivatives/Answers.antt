-- `vector_derivatives::VectorCurveDerivatives::absolute_derivatives` meets its contract. Assumes nothing.
use Rattle.std.proofs.Common.{ℕ, Float, cond, ◌&&◌, ltb, min, Result, Err, ◌∙◌, sym, ap, arith}
use Rattle.refusals.specs.declared.Refusal.{Refusal}
use Rattle.refusals.specs.declared.Refusal.TheVariants.{DivisionByZero}
use Rattle.calculus.specs.JetKind.{finite_up_to, returned}
use Rattle.formulas.specs.Real.{is_zero}
use Rattle.vector_formulas.specs.Vector.{vector_numbers, vector_norm}
use Rattle.derivatives.specs.declared.CurveDerivatives.{CurveDerivatives}
use Rattle.derivatives.specs.Answer.{curves}
use Rattle.derivatives.proofs.Passed.{met, not-met, one-low, one-worked}
use Rattle.derivatives.proofs.Answers.{curve-returned}
use Rattle.vector_derivatives.specs.Answer.{vector_curves}
use Rattle.vector_derivatives.proofs.Answers.{first_entry}
use Rattle.vector_derivatives.proofs.VectorCurveDerivatives.absolute_derivatives.Goals as goal

-- the work on the norm f
abbrev work : (ℕ → Float) → ℕ → Result CurveDerivatives Refusal
work f n = cond (ltb 0 n && is_zero (f 0)) (Err DivisionByZero) (returned curves n f)

pub returns-then-norm_divides : goal.returns-then-norm_divides
returns-then-norm_divides c =
    let s = c.args.self in
    let f = vector_norm (vector_numbers s.entries) in
    let n = c.in_ok-n.n in
    let e = sym c.one.ensures ∙ c.in_ok-n.was in
    met _ _ (c.norm_divides.ensures ∙ ap (λ (d : Float). ltb 0 n && is_zero d) (first_entry 21 f (min n 20) (omega arith) c.norm-r.ensures)) c.if-norm_divides.true
    ∙ one-worked s.order (finite_up_to vector_curves s) e (work f)

pub returns : goal.returns
returns c =
    let s = c.args.self in
    let f = vector_norm (vector_numbers s.entries) in
    let n = c.in_ok-n.n in
    let e = sym c.one.ensures ∙ c.in_ok-n.was in
    c.returned_curve.ensures
    ∙ curve-returned n (one-low s.order (finite_up_to vector_curves s) e) f c.norm-r.ensures
    ∙ not-met _ _ (c.norm_divides.ensures ∙ ap (λ (d : Float). ltb 0 n && is_zero d) (first_entry 21 f (min n 20) (omega arith) c.norm-r.ensures)) c.if-norm_divides.false
    ∙ one-worked s.order (finite_up_to vector_curves s) e (work f)
