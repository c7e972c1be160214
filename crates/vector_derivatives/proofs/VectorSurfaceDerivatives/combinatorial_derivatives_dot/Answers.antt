-- `vector_derivatives::VectorSurfaceDerivatives::combinatorial_derivatives_dot` meets its contract. Assumes nothing.
use Rattle.std.proofs.Common.{ℕ, ◌∙◌, sym}
use Rattle.ieee_vectors.specs.Vectors.{dot}
use Rattle.calculus.specs.Kind.{regular}
use Rattle.calculus.specs.Surface.{product_by}
use Rattle.calculus.specs.JetKind.{finite_up_to, returned}
use Rattle.formulas.specs.Real.{real}
use Rattle.vector_formulas.specs.Vector.{vector_surface_numbers}
use Rattle.derivatives.specs.Answer.{surfaces}
use Rattle.derivatives.proofs.Passed.{both-low, both-worked}
use Rattle.derivatives.proofs.Answers.{surface-returned}
use Rattle.vector_derivatives.specs.Answer.{vector_surfaces}
use Rattle.vector_derivatives.proofs.VectorSurfaceDerivatives.combinatorial_derivatives_dot.Goals as goal

pub returns : goal.returns
returns c =
    let s = c.args in
    let r = product_by (regular real) dot (vector_surface_numbers s.self.entries) (vector_surface_numbers s.other.entries) in
    let e = sym c.both.ensures ∙ c.in_ok-n.was in
    c.returned_surface.ensures
    ∙ surface-returned c.in_ok-n.n (both-low s.self.order s.other.order (finite_up_to vector_surfaces s.self) (finite_up_to vector_surfaces s.other) e) r c.dots.ensures
    ∙ both-worked s.self.order s.other.order (finite_up_to vector_surfaces s.self) (finite_up_to vector_surfaces s.other) e (λ (n : ℕ). returned surfaces n r)
