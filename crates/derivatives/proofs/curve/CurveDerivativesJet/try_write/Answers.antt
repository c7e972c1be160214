-- A curve's entries are written: they are copied. Assumes nothing.
use Rattle.std.proofs.Common.{◌≡◌, List, Float, ℕ, suc, length, ltb, eqb, take, drop, ◌++◌, Ok, ap, sym, ◌∙◌, arith, ltb-false, eqb-true, eq-eqb}
use Rattle.calculus.proofs.Passed.{fitting}
use Rattle.derivatives.proofs.Listed.{listed-over}
use Rattle.derivatives.proofs.curve.CurveDerivativesJet.try_write.Goals as goal

pub returns : goal.returns
returns c =
    let s = c.args.self.now in
    let n = s.order in
    let out = c.args.out.now in
    let t = fitting (ltb 20 n) (eqb (length out) c.count.result) (sym c.fits.ensures ∙ c.in_ok-fits.was) in
    let b = ltb-false 20 n t.0 in
    let e : length out ≡ suc n = omega (arith, b, eqb-true (length out) c.count.result t.1, c.count.ensures) in
    let k : c.min-k.result ≡ suc n = omega (arith, b, e, c.min-k.ensures) in
    rw (c.copy_from_slice.ensures.after, t.0, eq-eqb (length out) (suc n) e)
    (ap (λ (x : List Float). (Ok tt, x)) (ap (λ (k : ℕ). take k s.entries ++ drop k out) k ∙ listed-over (suc n) s.entries out (omega (arith, b)) e))
