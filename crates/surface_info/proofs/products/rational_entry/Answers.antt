-- `rational_entry` meets its contract: the entry that the array holds. Assumes nothing.
use Rattle.std.proofs.Common.{arith, ◌∙◌, ◌≤◌, le_refl}
use Rattle.ieee_vectors.specs.Vectors.{quotient}
use Rattle.calculus.specs.Rational.{rational}
use Rattle.formulas.specs.Numbers.{curve_numbers}
use Rattle.vector_formulas.specs.Vector.{vectors, vector_numbers, vector_array}
use Rattle.calculus.proofs.LoopCut.{uncut}
use Rattle.vector_formulas.proofs.Vectors.{vectors-agree}
use Rattle.surface_info.proofs.products.rational_entry.Goals as goal

pub returns : goal.returns
returns c =
    let a = c.args in
    let h : a.m ≤ 20 = omega (arith, c.requires) in
    let f = rational vectors quotient (vector_numbers a.a.now) (curve_numbers a.w.now) in
    let e = c.rational-q.ensures ∙ uncut (vector_array f) h in
    c.vector_at.ensures ∙ vectors-agree f a.m h e a.m (le_refl a.m)
