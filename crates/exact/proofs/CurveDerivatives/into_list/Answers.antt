-- `exact::CurveDerivatives::into_list` meets its contract: the entries are copied. Assumes nothing.
use Rattle.std.proofs.Common.{◌≡◌, List, ℤ, pos, suc, ◌+◌, length, ltb, eqb, take, ap, sym, ◌∙◌, Ok, arith, ltb-false, eqb-true, eq-eqb}
use Rattle.std.proofs.lemmas.List.{length-take, get_or-take}
use Rattle.calculus.proofs.Passed.{fitting}
use Rattle.exact_formulas.specs.Entries.{curve_numbers}
use Rattle.exact.proofs.Filled.{all-listed}
use Rattle.exact.proofs.CurveDerivatives.into_list.Goals as goal

pub returns : goal.returns
returns c =
    let s = c.args.self in
    let n = s.order in
    let out = c.args.out.now in
    let t = fitting (ltb 20 n) (eqb (length out) (c.min.result + 1)) (sym c.fits.ensures ∙ c.in_ok-fits.was) in
    let b = ltb-false 20 n t.0 in
    let e : length out ≡ suc n = omega (arith, b, eqb-true (length out) (c.min.result + 1) t.1, c.min.ensures) in
    let l : length (take (n + 1) s.entries) ≡ suc n = simp length-take (omega (arith, b)) in
    rw (c.copy_from_slice.ensures.after, t.0, eq-eqb (length out) (suc n) e)
    (ap (λ (x : List ℤ). (Ok tt, x)) (all-listed (curve_numbers s.entries) (take (n + 1) s.entries) l (λ k q. get_or-take (n + 1) s.entries k (pos 0) (omega arith))))
