-- `exact::ParameterCurve::into_list` meets its contract: the entries are written. Assumes nothing.
use Rattle.std.proofs.Common.{◌≡◌, List, ℤ, ℕ, suc, ◌+◌, ◌*◌, length, ltb, eqb, ap, sym, ◌∙◌, arith, Ok, ltb-false, eqb-true, eq-eqb}
use Rattle.calculus.specs.Order.{pairs, overwritten}
use Rattle.calculus.proofs.Passed.{fitting}
use Rattle.calculus.proofs.LoopCut.{uncut}
use Rattle.calculus.proofs.LoopPairs.{pairs-length}
use Rattle.calculus.proofs.LoopWritten.{overwritten-whole}
use Rattle.exact_formulas.specs.Entries.{curve_numbers}
use Rattle.exact.proofs.ParameterCurve.into_list.Goals as goal

pub returns : goal.returns
returns c =
    let n = c.args.self.order in
    let out = c.args.out.now in
    let u = curve_numbers c.args.self.u in
    let v = curve_numbers c.args.self.v in
    let t = fitting (ltb 20 n) (eqb (length out) (2 * (c.min.result + 1))) (sym c.fits.ensures ∙ c.in_ok-fits.was) in
    let b = ltb-false 20 n t.0 in
    let e : length out ≡ 2 * suc n = omega (arith, b, eqb-true (length out) (2 * (c.min.result + 1)) t.1, c.min.ensures) in
    rw (c.pairs_write.ensures, t.0, eq-eqb (length out) (2 * suc n) e)
    (ap (λ (x : List ℤ). (Ok tt, x)) (uncut (λ (k : ℕ). overwritten (pairs u v 0 (suc k)) out) b
    ∙ overwritten-whole (pairs u v 0 (suc n)) out (e ∙ sym (pairs-length u v 0 (suc n)))))
