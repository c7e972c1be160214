-- `surface_info::arrays::derivative_dot` meets its contract: the product reads only what the derivative's array holds. Assumes nothing.
use Rattle.std.proofs.Common.{arith, ap, ◌∙◌, ◌≤◌}
use Rattle.ieee_vectors.specs.Vectors.{dot}
use Rattle.calculus.specs.Kind.{regular}
use Rattle.calculus.specs.Curve.{derivative, product_by}
use Rattle.formulas.specs.Real.{real}
use Rattle.vector_formulas.specs.Vector.{vector_numbers, vector_array}
use Rattle.calculus.proofs.LoopCut.{uncut}
use Rattle.surface_info.proofs.Entries.{dot-left}
use Rattle.surface_info.proofs.arrays.derivative_dot.Goals as goal

pub returns : goal.returns
returns c =
    let k = c.min-k in
    let a = c.args in
    let l : k.result ≤ 19 = omega (arith, k.ensures) in
    let h : k.result ≤ 20 = omega (arith, l) in
    let f = derivative (vector_numbers a.a.now) in
    let d = vector_numbers a.b.now in
    let e = c.derivative-d.ensures ∙ uncut (vector_array f) l in
    c.dot.ensures ∙ uncut (product_by (regular real) dot (vector_numbers c.derivative-d.result) d) h ∙ dot-left k.result h f d e
    ∙ ap (product_by (regular real) dot f d) k.ensures
