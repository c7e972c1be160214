-- `derivative_product` meets its contract: the product reads only what the derivative's array holds. Assumes nothing.
use Rattle.std.proofs.Common.{arith, ◌∙◌, ◌≤◌}
use Rattle.calculus.specs.Array.{curve_array}
use Rattle.calculus.specs.Curve.{derivative, product}
use Rattle.ieee_vectors.specs.Vectors.{positive_zero}
use Rattle.formulas.specs.Real.{real}
use Rattle.formulas.specs.Numbers.{curve_numbers}
use Rattle.calculus.proofs.LoopCut.{uncut}
use Rattle.surface_info.proofs.Entries.{product-left}
use Rattle.surface_info.proofs.products.derivative_product.Goals as goal

pub returns : goal.returns
returns c =
    let a = c.args in
    let h : a.m ≤ 20 = omega (arith, c.requires) in
    let l : a.m ≤ 19 = omega (arith, c.requires) in
    let f = derivative (curve_numbers a.a.now) in
    let d = curve_numbers a.b.now in
    let e = c.derivative-d.ensures ∙ uncut (curve_array positive_zero f) l in
    c.product.ensures ∙ uncut (product real (curve_numbers c.derivative-d.result) d) h ∙ product-left a.m h f d e
