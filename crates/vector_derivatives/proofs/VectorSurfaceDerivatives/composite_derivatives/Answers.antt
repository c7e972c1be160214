-- `vector_derivatives::VectorSurfaceDerivatives::composite_derivatives` meets its contract. Assumes nothing.
use Rattle.std.proofs.Common.{ℕ, ◌∙◌, sym}
use Rattle.calculus.specs.Carry.{composite_derivatives}
use Rattle.calculus.specs.JetKind.{finite_up_to, returned}
use Rattle.formulas.specs.Numbers.{curve_numbers}
use Rattle.vector_formulas.specs.Vector.{vectors, vector_surface_numbers}
use Rattle.derivatives.specs.Answer.{parameters}
use Rattle.derivatives.proofs.Passed.{asked-low, asked-worked}
use Rattle.vector_derivatives.specs.Answer.{vector_curves, vector_surfaces}
use Rattle.vector_derivatives.proofs.Answers.{vectors-returned}
use Rattle.vector_derivatives.proofs.VectorSurfaceDerivatives.composite_derivatives.Goals as goal

pub returns : goal.returns
returns c =
    let s = c.args in
    let r = composite_derivatives vectors (curve_numbers s.curve.u) (curve_numbers s.curve.v) (vector_surface_numbers s.self.entries) in
    let e = sym c.asked.ensures ∙ c.in_ok-n.was in
    c.returned.ensures
    ∙ vectors-returned c.in_ok-n.n (asked-low s.self.order s.curve.order (finite_up_to vector_surfaces s.self) (finite_up_to parameters s.curve) s.order e) r c.derivatives.ensures
    ∙ asked-worked s.self.order s.curve.order (finite_up_to vector_surfaces s.self) (finite_up_to parameters s.curve) s.order e (λ (n : ℕ). returned vector_curves n r)
