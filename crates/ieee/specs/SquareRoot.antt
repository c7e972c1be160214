-- square_root of IEEE 754 (5.4.1) at binary64: the value nearest to the exact root, ties to even, as whole-number squares decide it.
-- Assumes nothing.
use Rattle.std.specs.Prelude.{true, false, cond, leb, Float}
use Prim.Native.Nat.{ℕ, zero, suc, ◌+◌, ◌-◌, ◌*◌, ◌/◌, ◌^◌, compare}
use Rattle.std.specs.Float.{nan, inf, fin, binary64}
use Rattle.std.specs.Float.Ieee.{prec, low, up, down, size, nearest, units}

-- the largest r with r * r ≤ n, for an n below 4 ^ k: all its binary digits but the last are those of the root of n / 4
unfoldable pub root_digits : ℕ → ℕ → ℕ
root_digits zero n = 0
root_digits (suc k) n = let r = 2 * root_digits k (n / 4) in cond (leb ((r + 1) * (r + 1)) n) (r + 1) r

-- the integer square root: the largest r with r * r ≤ n
unfoldable pub isqrt : ℕ → ℕ
unfolding root_digits size
isqrt n = root_digits (size n) n

-- The value nearest to √s of the smallest values, ties to even, for an s of 105 digits or more. A number of z digits has a root of z / 2,
-- rounded up: the format keeps 53, the number q, and drops k. So √s lies between q * 2 ^ k and (q + 1) * 2 ^ k, and on which side of their
-- middle it lies is told by the squares: 4 * s against (2 * q + 1)² * 4 ^ k.
unfoldable pub nearest_root : ℕ → Float
unfolding isqrt size units
nearest_root s =
    let k = (size s + 1) / 2 - prec binary64 in
    let q = isqrt (s / 4 ^ k) in
    units binary64 false (nearest q (compare (4 * s) ((2 * q + 1) * (2 * q + 1) * 4 ^ k))) k

-- the root of n times the smallest value, 2 ^ -1074: √(n * 2 ^ -1074) = √(n * 2 ^ 1074) * 2 ^ -1074
unfoldable pub root_of : ℕ → Float
unfolding nearest_root
root_of n = nearest_root (n * 2 ^ low binary64)

unfoldable pub square_root : Float → Float
unfolding root_of
square_root nan = nan
square_root (inf true) = nan
square_root (inf false) = inf false
square_root (fin s zero e) = fin s zero e
square_root (fin true (suc m) e) = nan
square_root (fin false (suc m) e) = root_of (suc m * up e * 2 ^ low binary64 / down e)
