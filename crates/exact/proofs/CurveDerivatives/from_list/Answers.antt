-- `exact::CurveDerivatives::from_list` meets its contract: the list is copied. Assumes nothing.
use Rattle.std.proofs.Common.{◌≡◌, List, ℤ, suc, ◌+◌, length, ltb, eqb, refl, sym, ap, ◌∙◌, add-one, arith, Ok, ltb-false, eqb-true, eq-eqb}
use Rattle.calculus.proofs.Passed.{fitting}
use Rattle.exact_formulas.specs.Entries.{curve_numbers}
use Rattle.exact.proofs.Filled.{copied}
use Rattle.exact.proofs.CurveDerivatives.from_list.Goals as goal

pub returns : goal.returns
returns c =
    let a = c.args in
    let t = fitting (ltb 20 a.order) (eqb (length a.list.now) (c.min.result + 1)) (sym c.fits.ensures ∙ c.in_ok-fits.was) in
    let l : length a.list.now ≡ suc a.order = omega (arith, ltb-false 20 a.order t.0, eqb-true (length a.list.now) (c.min.result + 1) t.1, c.min.ensures) in
    rw (c.copy_from_slice.ensures.after, t.0, eq-eqb (length a.list.now) (suc a.order) l, add-one a.order)
    (ap (λ (x : List ℤ). Ok (record { order = a.order; entries = x })) (copied (curve_numbers a.list.now) a.list.now l (λ k q. refl) (omega (arith, ltb-false 20 a.order t.0))))
