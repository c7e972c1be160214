-- The carry of a surface along a curve, both of the order that is asked. Assumes nothing.
use Rattle.std.specs.Prelude.{List, ℕ, ℤ, Result}
use Rattle.refusals.specs.declared.Refusal.{Refusal}
use Rattle.exact.specs.declared.CurveDerivatives.{CurveDerivatives}
use Rattle.exact.specs.Composite.{along_curve}

unfoldable pub carried : List ℤ → List ℤ → List ℤ → ℕ → Result CurveDerivatives Refusal
carried entries u v order = along_curve (record { order = order; entries = entries }) (record { order = order; u = u; v = v }) order
