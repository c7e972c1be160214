-- `exact::CurveDerivatives::derivative` meets its contract: the entries from the second on are copied. Assumes nothing.
use Rattle.std.proofs.Common.{◌≡◌, true, List, ℤ, pos, suc, ◌+◌, ◌-◌, length, take, drop, ap, sym, ◌∙◌, add-one, arith, length-drop, Ok}
use Rattle.std.proofs.lemmas.List.{length-take, get_or-take, get_or-drop}
use Rattle.calculus.specs.Curve.{derivative}
use Rattle.calculus.specs.JetKind.{answered}
use Rattle.calculus.proofs.Passed.{less-order, less-low, less-worked}
use Rattle.exact_formulas.specs.Entries.{curve_numbers}
use Rattle.exact.specs.Answer.{curves}
use Rattle.exact.proofs.Filled.{copied}
use Rattle.exact.proofs.CurveDerivatives.derivative.Goals as goal

pub returns : goal.returns
returns c =
    let s = c.args.self in
    let n = c.in_ok-n.n in
    let e = sym c.less.ensures ∙ c.in_ok-n.was in
    let h = less-order s.order true e in
    let b = less-low s.order true e in
    let part = take (n + 2 - 1) (drop 1 s.entries) in
    let l : length (take (n + 2 - 1) (drop 1 s.entries)) ≡ suc n = simp (length-take, length-drop) (omega (arith, h, b)) in
    rw (c.copy_from_slice.ensures.after, add-one n)
    (ap (λ (x : List ℤ). Ok (record { order = n; entries = x })) (copied (derivative (curve_numbers s.entries)) part l
    (λ k q. let i : 1 + k ≡ suc k = omega arith in
    get_or-take (n + 2 - 1) (drop 1 s.entries) k (pos 0) (omega arith) ∙ get_or-drop 1 s.entries k (pos 0) ∙ ap (curve_numbers s.entries) i) (omega (arith, h, b)))
    ∙ less-worked s.order true e (λ k. answered curves k (derivative (curve_numbers s.entries))))
