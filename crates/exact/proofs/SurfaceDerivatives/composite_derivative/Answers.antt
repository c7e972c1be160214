-- `exact::SurfaceDerivatives::composite_derivative` meets its contract. Assumes nothing.
use Rattle.std.proofs.Common.{ℕ, sym, ◌∙◌}
use Rattle.whole.specs.Checked.{Whole}
use Rattle.calculus.specs.Kind.{regular}
use Rattle.calculus.specs.Carry.{composite_derivative}
use Rattle.calculus.proofs.LoopCut.{uncut}
use Rattle.exact_formulas.specs.Kinds.{checked}
use Rattle.exact_formulas.specs.Entries.{curve_values, surface_values}
use Rattle.exact.specs.declared.SurfaceDerivatives.{SurfaceDerivatives}
use Rattle.exact.specs.declared.ParameterCurve.{ParameterCurve}
use Rattle.exact.proofs.Orders.{asked-within, passed, in-range}
use Rattle.exact.proofs.SurfaceDerivatives.composite_derivative.Goals as goal

-- the derivative of the order asked, beside the tests
abbrev carried : SurfaceDerivatives → ParameterCurve → ℕ → Whole
carried s c = composite_derivative (regular checked) (curve_values c.u) (curve_values c.v) (surface_values s.entries)

pub returns : goal.returns
returns c =
    let a = c.args in
    let w = asked-within a.self.order a.curve.order a.order (sym c.asked.ensures ∙ c.in_ok-asked.was) in
    c.derivative.ensures ∙ uncut (carried a.self a.curve) (in-range a.self.order a.curve.order a.order w)
    ∙ passed a.self.order a.curve.order a.order w (carried a.self a.curve a.order)
