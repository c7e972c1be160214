-- `surface_info::arrays::dot_difference` meets its contract: the product reads only what the difference's array holds. Assumes nothing.
use Rattle.std.proofs.Common.{arith, ◌∙◌, ◌≤◌, min}
use Rattle.calculus.specs.Curve.{difference}
use Rattle.vector_formulas.specs.Vector.{vectors, vector_numbers}
use Rattle.surface_info.proofs.Entries.{dot-right}
use Rattle.surface_info.proofs.arrays.dot_difference.Goals as goal

pub returns : goal.returns
returns c =
    let a = c.args in
    let h : min a.m 20 ≤ 20 = omega arith in
    let f = difference vectors (vector_numbers a.a.now) (vector_numbers a.b.now) in
    c.dot.ensures ∙ dot-right (min a.m 20) h (vector_numbers a.d.now) f c.difference-e.ensures
