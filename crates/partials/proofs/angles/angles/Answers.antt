-- `angles` meets its contract. Assumes nothing.
use Rattle.formulas.specs.Numbers.{curve_numbers}
use Rattle.vector_formulas.specs.Vector.{vector_numbers}
use Rattle.ieee_vectors.specs.Vectors.{positive_zero}
use Rattle.partials.specs.AxisAngle.{rates, dots, turns, angles}
use Rattle.formulas.proofs.Curves.{numbers-held, numbers-agree}
use Rattle.calculus.proofs.Same.{filled-same}
use Rattle.calculus.specs.Array.{curve_array}
use Rattle.calculus.proofs.LoopCut.{uncut}
use Rattle.partials.proofs.Turning.{turns-upto, angles-upto}
use Rattle.std.proofs.Common.{arith, suc, ◌≤◌, refl, ◌∙◌}
use Rattle.partials.proofs.angles.angles.Goals as goal

pub returns : goal.returns
returns c =
    let s = c.args in
    let n = s.n in
    let r = curve_numbers s.r.now in
    let p = vector_numbers s.p.now in
    let q = vector_numbers s.q.now in
    let l = curve_numbers s.length.now in
    let h : n ≤ 20 = omega arith in
    let rate = curve_numbers c.rates-rate.result in
    let dot = curve_numbers c.dots-dot.result in
    let f = curve_numbers c.turns-turn.result in
    let g = turns (rates r) (dots p q) l in
    let held = numbers-held (turns rate dot l) n (omega arith) c.turns-turn.ensures in
    let same = turns-upto rate (rates r) dot (dots p q) l l n (numbers-agree (rates r) n h c.rates-rate.ensures) (numbers-agree (dots p q) n h (c.dots-dot.ensures ∙ uncut (curve_array positive_zero (dots p q)) h)) (λ i a. refl) in
    c.with_angle.ensures
    ∙ filled-same 21 (suc n) positive_zero (angles s.angle f) (angles s.angle g) (λ k b. angles-upto s.angle n f g (λ m a. held m a ∙ same m a) k (omega arith))
