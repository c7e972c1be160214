-- `along_u` meets its contract: the carry reads only what the derivative's array holds. Assumes nothing.
use Rattle.formulas.specs.Numbers.{curve_numbers}
use Rattle.vector_formulas.specs.Vector.{vector_surface_numbers}
use Rattle.calculus.specs.Surface.{derivative_u}
use Rattle.surface_info.proofs.Entries.{along-derived}
use Rattle.surface_info.proofs.products.along_u.Goals as goal

pub returns : goal.returns
returns c =
    let a = c.args in
    along-derived a.m c.requires (curve_numbers a.uv.now.u) (curve_numbers a.uv.now.v) (derivative_u (vector_surface_numbers a.s.now))
    c.derivative_u-d.ensures c.along.ensures
