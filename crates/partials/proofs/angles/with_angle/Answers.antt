-- `with_angle` meets its contract: the angle, and the entries that are copied after it. Assumes nothing.
use Rattle.std.proofs.Common.{◌≡◌, ℕ, zero, suc, ◌+◌, ◌-◌, ◌≤◌, ◌<◌, List, ◌∷◌, ◌++◌, length, take, drop, replicate, refl, arith}
use Rattle.std.proofs.lemmas.List.{length-take, get_or-take}
use Rattle.std.specs.Float.{Float, nan}
use Rattle.ieee_vectors.specs.Vectors.{positive_zero}
use Rattle.calculus.specs.Array.{curve_array}
use Rattle.formulas.specs.Numbers.{curve_numbers}
use Rattle.formulas.proofs.Curves.{copied}
use Rattle.partials.specs.AxisAngle.{angles}
use Rattle.partials.proofs.angles.with_angle.Goals as goal

after-angle : (angle : Float) (turn : List Float) (n : ℕ) → length turn ≡ 21 → n ≤ 20 →
    angle ∷ (take n turn ++ drop n (replicate 20 positive_zero)) ≡ curve_array positive_zero (angles angle (curve_numbers turn)) n
after-angle angle turn n e l = copied 21 (angles angle (curve_numbers turn)) (angle ∷ take n turn) (omega (arith, l)) long held
  where
    long : length (angle ∷ take n turn) ≡ suc n
    long = simp (length-take) (omega (arith, e, l))

    held : (k : ℕ) → k < suc n → curve_numbers (angle ∷ take n turn) k ≡ angles angle (curve_numbers turn) k
    held zero h = refl
    held (suc k) h = get_or-take n turn k nan (omega (arith, h))

pub returns : goal.returns
returns c =
    let s = c.args in
    let part : c.copy_from_slice.new.self ≡ take s.n s.turn.now = c.copy_from_slice.ensures.after in
    let one : s.n + 1 - 1 ≡ s.n = omega arith in
    rw part (rw one (after-angle s.angle s.turn.now s.n c.told-turn c.requires))
