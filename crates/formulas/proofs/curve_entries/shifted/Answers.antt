-- `formulas::curve_entries::shifted` meets its contract: what is copied are the entries from the second on. Assumes nothing.
use Rattle.std.proofs.Common.{◌≡◌, suc, ◌+◌, ◌-◌, length, drop, take, ap, ◌∙◌, add-one, arith, length-drop}
use Rattle.std.proofs.lemmas.List.{length-take, get_or-take, get_or-drop}
use Rattle.std.specs.Float.{nan}
use Rattle.calculus.specs.Curve.{derivative}
use Rattle.formulas.specs.Numbers.{curve_numbers}
use Rattle.formulas.proofs.Curves.{copied}
use Rattle.formulas.proofs.curve_entries.shifted.Goals as goal

pub returns : goal.returns
returns c =
    let s = c.args in
    let part : c.copy_from_slice.new.self ≡ take (s.n + 2 - 1) (drop 1 s.a.now) = c.copy_from_slice.ensures.after in
    let long : length (take (s.n + 2 - 1) (drop 1 s.a.now)) ≡ suc s.n = simp (length-take, length-drop) (omega arith) in
    rw part (rw (add-one s.n) (copied 21 (derivative (curve_numbers s.a.now)) (take (s.n + 2 - 1) (drop 1 s.a.now)) (omega arith) long
    (λ k q. let e : 1 + k ≡ suc k = omega arith in
    get_or-take (s.n + 2 - 1) (drop 1 s.a.now) k nan (omega arith) ∙ get_or-drop 1 s.a.now k nan ∙ ap (curve_numbers s.a.now) e)))
