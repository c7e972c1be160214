-- A curve's list is read: it is copied. Assumes nothing.
use Rattle.std.proofs.Common.{◌≡◌, List, Float, ℕ, suc, length, ltb, eqb, take, drop, replicate, ◌++◌, Result, Ok, refl, ap, sym, ◌∙◌, arith, ltb-false, eqb-true}
use Rattle.std.proofs.lemmas.List.{take_all}
use Rattle.refusals.specs.declared.Refusal.{Refusal}
use Rattle.ieee_vectors.specs.Vectors.{positive_zero}
use Rattle.formulas.specs.Numbers.{curve_numbers}
use Rattle.formulas.proofs.Curves.{copied}
use Rattle.calculus.proofs.Passed.{fitting}
use Rattle.calculus.proofs.Tested.{plain-is}
use Rattle.derivatives.specs.Answer.{curves}
use Rattle.derivatives.specs.declared.CurveDerivatives.{CurveDerivatives}
use Rattle.derivatives.proofs.curve.CurveDerivativesJet.try_read.Goals as goal

abbrev with : ℕ → List Float → Result CurveDerivatives Refusal
with n l = Ok (record { order = n; entries = l })

pub returns : goal.returns
returns c =
    let n = c.args.n in
    let l = c.args.list.now in
    let t = fitting (ltb 20 n) (eqb (length l) c.count.result) (sym c.fits.ensures ∙ c.in_ok-fits.was) in
    let b = ltb-false 20 n t.0 in
    let e : length l ≡ suc n = omega (arith, b, eqb-true (length l) c.count.result t.1, c.count.ensures) in
    let k : c.min-k.result ≡ suc n = omega (arith, b, e, c.min-k.ensures) in
    let whole : take (suc n) l ≡ l = take_all (suc n) l (omega (arith, e)) in
    rw c.copy_from_slice.ensures.after
    (ap (with n) (ap (λ (k : ℕ). take k l ++ drop k (replicate 21 positive_zero)) k
    ∙ ap (λ (x : List Float). x ++ drop (suc n) (replicate 21 positive_zero)) whole
    ∙ copied 21 (curve_numbers l) l (omega (arith, b)) e (λ k q. refl))
    ∙ plain-is curves n l b refl e)
