-- `derivative_dot_difference` meets its contract: the product reads only what the derivative's array holds. Assumes nothing.
use Rattle.std.proofs.Common.{arith, ◌∙◌, ◌≤◌}
use Rattle.ieee_vectors.specs.Vectors.{dot}
use Rattle.calculus.specs.Kind.{regular}
use Rattle.calculus.specs.Curve.{derivative, difference, product_by}
use Rattle.formulas.specs.Real.{real}
use Rattle.vector_formulas.specs.Vector.{vectors, vector_numbers, vector_array}
use Rattle.calculus.proofs.LoopCut.{uncut}
use Rattle.surface_info.proofs.Entries.{dot-left}
use Rattle.contacts.proofs.steps.derivative_dot_difference.Goals as goal

pub returns : goal.returns
returns c =
    let a = c.args in
    let h : a.m ≤ 20 = omega (arith, c.requires) in
    let l : a.m ≤ 19 = omega (arith, c.requires) in
    let e = vector_numbers a.a.now in
    let f = derivative e in
    let g = difference vectors e (vector_numbers a.b.now) in
    let d = c.derivative-d.ensures ∙ uncut (vector_array f) l in
    c.dot_difference.ensures ∙ uncut (product_by (regular real) dot (vector_numbers c.derivative-d.result) g) h ∙ dot-left a.m h f g d
