-- Axis orders of another total are other orders; so those that total three or more have the zero matrix. Assumes nothing.
use Rattle.std.proofs.Common.{ℕ, ◌+◌, ◌≤◌, ◌<◌, Bool, true, false, ◌&&◌, ◌≡◌, refl, arith, eqb-true, eqb}
use Rattle.rodrigues.specs.Rodrigues
use Rattle.rodrigues.specs.Rodrigues.{Arithmetic, Three, same}

three-tests : (p q r : Bool) → (p ≡ true → q ≡ true → r ≡ true → ⊥) → (p && q && r) ≡ false
three-tests false q r f = refl
three-tests true false r f = refl
three-tests true true false f = refl
three-tests true true true f = absurd (f refl refl refl)

-- orders of another total are other orders
other-total : (x y z p q r : ℕ) → p + q + r < x + y + z → same x y z p q r ≡ false
other-total x y z p q r h =
    three-tests (eqb x p) (eqb y q) (eqb z r)
    (λ e f g.
    let ex = eqb-true x p e in
    let ey = eqb-true y q f in
    let ez = eqb-true z r g in
    omega (arith, h, ex, ey, ez))

module _ {A : Type 0} (K : Arithmetic A) where
  -- the third derivative by the axis is zero, and each after it
  pub third-zero : (a : Three A) (s c k : A) (x y z : ℕ) → 3 ≤ x + y + z → Rodrigues.zeros K ≡ Rodrigues.by_axis K x y z a s c k
  third-zero a s c k x y z h =
      let e000 : same x y z 0 0 0 ≡ false = other-total x y z 0 0 0 (omega (arith, h)) in
      let e100 : same x y z 1 0 0 ≡ false = other-total x y z 1 0 0 (omega (arith, h)) in
      let e010 : same x y z 0 1 0 ≡ false = other-total x y z 0 1 0 (omega (arith, h)) in
      let e001 : same x y z 0 0 1 ≡ false = other-total x y z 0 0 1 (omega (arith, h)) in
      let e200 : same x y z 2 0 0 ≡ false = other-total x y z 2 0 0 (omega (arith, h)) in
      let e020 : same x y z 0 2 0 ≡ false = other-total x y z 0 2 0 (omega (arith, h)) in
      let e002 : same x y z 0 0 2 ≡ false = other-total x y z 0 0 2 (omega (arith, h)) in
      let e011 : same x y z 0 1 1 ≡ false = other-total x y z 0 1 1 (omega (arith, h)) in
      let e101 : same x y z 1 0 1 ≡ false = other-total x y z 1 0 1 (omega (arith, h)) in
      let e110 : same x y z 1 1 0 ≡ false = other-total x y z 1 1 0 (omega (arith, h)) in
      simp (e000, e100, e010, e001, e200, e020, e002, e011, e101, e110)
