-- `derivatives::SurfaceDerivatives::composite_derivatives` meets its contract. Assumes nothing.
use Rattle.std.proofs.Common.{ℕ, ◌∙◌, sym}
use Rattle.calculus.specs.Kind.{regular}
use Rattle.calculus.specs.Carry.{composite_derivatives}
use Rattle.calculus.specs.JetKind.{finite_up_to, returned}
use Rattle.formulas.specs.Real.{real}
use Rattle.formulas.specs.Numbers.{curve_numbers, surface_numbers}
use Rattle.derivatives.specs.Answer.{curves, surfaces, parameters}
use Rattle.derivatives.proofs.Passed.{asked-low, asked-worked}
use Rattle.derivatives.proofs.Answers.{curve-returned}
use Rattle.derivatives.proofs.SurfaceDerivatives.composite_derivatives.Goals as goal

pub returns : goal.returns
returns c =
    let s = c.args in
    let r = composite_derivatives (regular real) (curve_numbers s.curve.u) (curve_numbers s.curve.v) (surface_numbers s.self.entries) in
    let e = sym c.asked.ensures ∙ c.in_ok-n.was in
    c.returned_curve.ensures
    ∙ curve-returned c.in_ok-n.n (asked-low s.self.order s.curve.order (finite_up_to surfaces s.self) (finite_up_to parameters s.curve) s.order e) r c.derivatives.ensures
    ∙ asked-worked s.self.order s.curve.order (finite_up_to surfaces s.self) (finite_up_to parameters s.curve) s.order e (λ (n : ℕ). returned curves n r)
