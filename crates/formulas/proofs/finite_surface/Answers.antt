-- `formulas::finite_surface` meets its contract. Assumes nothing.
use Rattle.std.proofs.Common.{◌≡◌, ℕ, suc, min, ap, ◌∙◌, arith}
use Rattle.std.specs.Float.{nan}
use Rattle.std.specs.Float.Ieee.Scale.{finite}
use Rattle.calculus.specs.Graded.{triangle}
use Rattle.calculus.proofs.Graded.{room-231}
use Rattle.formulas.specs.Numbers.{curve_numbers, all_finite}
use Rattle.formulas.proofs.Finite.{passes, counted, surface-finite}
use Rattle.formulas.proofs.finite_surface.Goals as goal

pub shared_ref_as_front-each_finite : goal.shared_ref_as_front-each_finite
shared_ref_as_front-each_finite c =
    omega (arith, counted c.min.result (omega arith) c.surface_count.ensures, room-231 c.min.result (omega arith))

pub returns : goal.returns
returns c =
    let s = c.args in
    let e = counted c.min.result (omega arith) c.surface_count.ensures in
    let k : c.surface_count.result ≡ triangle (suc (min s.n 20)) = e ∙ ap (λ (x : ℕ). triangle (suc x)) c.min.ensures in
    c.each_finite.ensures ∙ passes finite nan s.a.now c.surface_count.result (omega (arith, e, room-231 c.min.result (omega arith)))
    ∙ ap (all_finite (curve_numbers s.a.now)) k ∙ surface-finite s.a.now (min s.n 20)
