-- u and v are written side by side. Assumes nothing.
use Rattle.std.proofs.Common.{◌≡◌, List, Float, ℕ, suc, ◌*◌, length, ltb, eqb, Ok, ap, sym, ◌∙◌, arith, ltb-false, eqb-true, eq-eqb}
use Rattle.std.specs.Float.{nan}
use Rattle.calculus.specs.Order.{pairs, overwritten}
use Rattle.calculus.proofs.Passed.{fitting}
use Rattle.calculus.proofs.LoopCut.{uncut}
use Rattle.calculus.proofs.LoopPlaces.{numbers_in}
use Rattle.calculus.proofs.LoopBlanks.{pairs-blanks}
use Rattle.calculus.proofs.LoopPairs.{pairs-length}
use Rattle.calculus.proofs.LoopWritten.{overwritten-whole}
use Rattle.ieee_vectors.specs.Vectors.{positive_zero}
use Rattle.derivatives.proofs.parameter.ParameterCurveJet.try_write.Goals as goal

pub returns : goal.returns
returns c =
    let a = c.args.self.now in
    let n = a.order in
    let out = c.args.out.now in
    let u = numbers_in positive_zero a.u in
    let v = numbers_in positive_zero a.v in
    let t = fitting (ltb 20 n) (eqb (length out) c.count.result) (sym c.fits.ensures ∙ c.in_ok-fits.was) in
    let b = ltb-false 20 n t.0 in
    let e : length out ≡ 2 * suc n = omega (arith, b, eqb-true (length out) c.count.result t.1, c.count.ensures) in
    rw (c.pairs_write.ensures, t.0, eq-eqb (length out) (2 * suc n) e)
    (ap (λ (x : List Float). (Ok tt, x)) (uncut (λ (k : ℕ). overwritten (pairs u v 0 (suc k)) out) b
    ∙ overwritten-whole (pairs u v 0 (suc n)) out (e ∙ sym (pairs-length u v 0 (suc n)))
    ∙ pairs-blanks positive_zero nan a.u a.v 0 (suc n) (omega (arith, b)) (omega (arith, b))))
