-- `vector_derivatives::VectorSurfaceDerivatives::absolute_derivatives` meets its contract. Assumes nothing.
use Rattle.std.proofs.Common.{ℕ, Float, cond, ◌&&◌, ltb, Result, Err, ◌∙◌, sym, ap}
use Rattle.refusals.specs.declared.Refusal.{Refusal}
use Rattle.refusals.specs.declared.Refusal.TheVariants.{DivisionByZero}
use Rattle.ieee_vectors.specs.Vectors.{positive_zero}
use Rattle.calculus.specs.Array.{surface_array}
use Rattle.calculus.specs.JetKind.{finite_up_to, returned}
use Rattle.calculus.proofs.LoopCut.{uncut}
use Rattle.formulas.specs.Real.{is_zero}
use Rattle.vector_formulas.specs.Vector.{vector_surface_numbers}
use Rattle.vector_surface_formulas.specs.Formulas.{vector_surface_norm}
use Rattle.vector_surface_formulas.proofs.SurfaceNorms.{first_entry}
use Rattle.derivatives.specs.declared.SurfaceDerivatives.{SurfaceDerivatives}
use Rattle.derivatives.specs.Answer.{surfaces}
use Rattle.derivatives.proofs.Passed.{met, not-met, one-low, one-worked}
use Rattle.derivatives.proofs.Answers.{surface-returned}
use Rattle.vector_derivatives.specs.Answer.{vector_surfaces}
use Rattle.vector_derivatives.proofs.VectorSurfaceDerivatives.absolute_derivatives.Goals as goal

-- the work on the norm f
abbrev work : (ℕ → ℕ → Float) → ℕ → Result SurfaceDerivatives Refusal
work f n = cond (ltb 0 n && is_zero (f 0 0)) (Err DivisionByZero) (returned surfaces n f)

pub returns-then-norm_divides : goal.returns-then-norm_divides
returns-then-norm_divides c =
    let s = c.args.self in
    let f = vector_surface_norm (vector_surface_numbers s.entries) in
    let n = c.in_ok-n.n in
    let e = sym c.one.ensures ∙ c.in_ok-n.was in
    let b = one-low s.order (finite_up_to vector_surfaces s) e in
    met _ _ (c.norm_divides.ensures ∙ ap (λ (d : Float). ltb 0 n && is_zero d) (first_entry f n b (c.norm-r.ensures ∙ uncut (surface_array positive_zero f) b))) c.if-norm_divides.true
    ∙ one-worked s.order (finite_up_to vector_surfaces s) e (work f)

pub returns : goal.returns
returns c =
    let s = c.args.self in
    let f = vector_surface_norm (vector_surface_numbers s.entries) in
    let n = c.in_ok-n.n in
    let e = sym c.one.ensures ∙ c.in_ok-n.was in
    let b = one-low s.order (finite_up_to vector_surfaces s) e in
    c.returned_surface.ensures
    ∙ surface-returned n b f c.norm-r.ensures
    ∙ not-met _ _ (c.norm_divides.ensures ∙ ap (λ (d : Float). ltb 0 n && is_zero d) (first_entry f n b (c.norm-r.ensures ∙ uncut (surface_array positive_zero f) b))) c.if-norm_divides.false
    ∙ one-worked s.order (finite_up_to vector_surfaces s) e (work f)
