-- The contact circle's derivatives along its arc, centre + R(axis, angle·u)·(point − centre) by u, each operation rounded in the order of the
-- source's `derivative_n` (document 01, "Axis, angle, partials"). Assumes nothing.
use Rattle.std.specs.Prelude.{ℕ, zero, suc, Float}
use Rattle.ieee_vectors.specs.Vectors.{times, sum, difference, multiple}
use Rattle.ieee_vectors.specs.Matrices.{image3}
use Rattle.ieee_vectors.specs.declared.Vector3.{Vector3}
use Rattle.rodrigues.specs.Rotation.{one, turned, constant, rotation}

-- a repeated product from 1.0
abbrev pub power : Float → ℕ → Float
power x zero = one
power x (suc n) = times (power x n) x

-- each derivative turns the pair by a quarter and multiplies by the angle; the rotation itself has all orders zero
abbrev pub derivative : (center axis : Vector3) → (angle : Float) → (point : Vector3) → ℕ → (s c : Float) → Vector3
derivative center axis angle point m s c =
    let p = turned m s c in
    let turn = rotation 0 0 0 0 axis p.s p.c in
    let radius = difference point center in
    sum (multiple center (constant m)) (multiple (image3 turn radius) (power angle m))
