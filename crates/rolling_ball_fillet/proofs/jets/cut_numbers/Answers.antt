-- `cut_numbers` meets its contract: what is copied are the first entries. Assumes nothing.
use Rattle.std.proofs.Common.{◌≡◌, suc, ◌+◌, length, take, add-one, arith}
use Rattle.std.proofs.lemmas.List.{length-take, get_or-take}
use Rattle.std.specs.Float.{nan}
use Rattle.formulas.specs.Numbers.{curve_numbers}
use Rattle.formulas.proofs.Curves.{copied}
use Rattle.rolling_ball_fillet.proofs.jets.cut_numbers.Goals as goal

pub returns : goal.returns
returns c =
    let s = c.args in
    let part : c.copy_from_slice.new.self ≡ take (s.n + 1) s.a.now = c.copy_from_slice.ensures.after in
    let long : length (take (suc s.n) s.a.now) ≡ suc s.n = simp (length-take) (omega arith) in
    rw part (rw (add-one s.n) (copied 21 (curve_numbers s.a.now) (take (suc s.n) s.a.now) (omega arith) long (λ k q. get_or-take (suc s.n) s.a.now k nan q)))
