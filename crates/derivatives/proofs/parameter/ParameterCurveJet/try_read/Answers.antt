-- A parameter curve's list is read. Assumes nothing.
use Rattle.std.proofs.Common.{◌≡◌, List, Float, ℕ, suc, ◌+◌, ◌*◌, length, ltb, eqb, get_or, Result, Ok, refl, ap, ap₂, sym, ◌∙◌, arith, ltb-false, eqb-true}
use Rattle.std.specs.Float.{nan}
use Rattle.refusals.specs.declared.Refusal.{Refusal}
use Rattle.calculus.specs.Array.{curve_array}
use Rattle.calculus.proofs.Passed.{fitting}
use Rattle.calculus.proofs.Tested.{plain-is}
use Rattle.calculus.proofs.LoopCut.{uncut}
use Rattle.calculus.proofs.LoopBlanks.{even-blanks, odd-blanks}
use Rattle.ieee_vectors.specs.Vectors.{positive_zero}
use Rattle.derivatives.specs.Answer.{parameters}
use Rattle.derivatives.specs.declared.ParameterCurve.{ParameterCurve}
use Rattle.derivatives.proofs.parameter.ParameterCurveJet.try_read.Goals as goal

abbrev with : ℕ → List Float → List Float → Result ParameterCurve Refusal
with n u v = Ok (record { order = n; u = u; v = v })

pub returns : goal.returns
returns c =
    let n = c.args.n in
    let l = c.args.list.now in
    let z = positive_zero in
    let t = fitting (ltb 20 n) (eqb (length l) c.count.result) (sym c.fits.ensures ∙ c.in_ok-fits.was) in
    let b = ltb-false 20 n t.0 in
    let e : length l ≡ 2 * suc n = omega (arith, b, eqb-true (length l) c.count.result t.1, c.count.ensures) in
    ap (λ (p : List Float × List Float). with n p.0 p.1)
    (c.pairs_read.ensures ∙ uncut (λ (k : ℕ). (curve_array z (λ m. get_or l (2 * m) z) k, curve_array z (λ m. get_or l (2 * m + 1) z) k)) b)
    ∙ ap₂ (with n) (even-blanks z z nan l n e) (odd-blanks z z nan l n e)
    ∙ plain-is parameters n l b refl e
