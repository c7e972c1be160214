-- `exact::SurfaceDerivatives::composite_derivatives` meets its contract. Assumes nothing.
use Rattle.std.proofs.Common.{ℕ, sym, ◌∙◌}
use Rattle.std.proofs.lemmas.Result.{err_from_is_err_and}
use Rattle.whole.specs.Checked.{Whole}
use Rattle.calculus.specs.Kind.{regular}
use Rattle.calculus.specs.Carry.{composite_derivatives}
use Rattle.exact_formulas.specs.Kinds.{checked}
use Rattle.exact_formulas.specs.Entries.{curve_values, surface_values}
use Rattle.exact.specs.declared.SurfaceDerivatives.{SurfaceDerivatives}
use Rattle.exact.specs.declared.ParameterCurve.{ParameterCurve}
use Rattle.exact.specs.Answer.{curve_answer}
use Rattle.exact.proofs.Answers.{curve-answered, curve-refused}
use Rattle.exact.proofs.Orders.{asked-within, passed, in-range}
use Rattle.exact.proofs.SurfaceDerivatives.composite_derivatives.Goals as goal

abbrev carried : SurfaceDerivatives → ParameterCurve → ℕ → Whole
carried s c = composite_derivatives (regular checked) (curve_values c.u) (curve_values c.v) (surface_values s.entries)

pub returns-in_err-entries : goal.returns-in_err-entries
returns-in_err-entries c =
    let a = c.args in
    let w = asked-within a.self.order a.curve.order a.order (sym c.asked.ensures ∙ c.in_ok-asked.was) in
    let p = err_from_is_err_and c.from_residual-in_err-entries.result c.from_residual-in_err-entries.ensures.1 in
    rw (p.1, p.2) (curve-refused (carried a.self a.curve) (in-range a.self.order a.curve.order a.order w) c.derivatives.ensures c.in_err-entries.was
    ∙ passed a.self.order a.curve.order a.order w (curve_answer (carried a.self a.curve) a.order))

pub returns : goal.returns
returns c =
    let a = c.args in
    let w = asked-within a.self.order a.curve.order a.order (sym c.asked.ensures ∙ c.in_ok-asked.was) in
    curve-answered (carried a.self a.curve) (in-range a.self.order a.curve.order a.order w) c.derivatives.ensures c.in_ok-entries.was
    ∙ passed a.self.order a.curve.order a.order w (curve_answer (carried a.self a.curve) a.order)
