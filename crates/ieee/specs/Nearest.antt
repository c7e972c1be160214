-- When one value is nearer than another to an exact square root, by whole-number squares. Assumes nothing.
use Rattle.std.specs.Prelude.{◌+◌, ◌*◌, ◌<◌, T, Float}
use Rattle.std.specs.Float.Ieee.{lt}
use Rattle.std.specs.Float.Ieee.Positive.{num, den}

-- For finite values that are not negative, each being num / den: √x < (y + z) / 2, that is 4 x < (y + z)², with the denominators multiplied out
abbrev pub root_below_middle : Float → Float → Float → Type 0
root_below_middle x y z =
    let s = num y * den z + num z * den y in
    let d = den y * den z in
    4 * num x * (d * d) < s * s * den x

-- (y + z) / 2 < √x
abbrev pub root_above_middle : Float → Float → Float → Type 0
root_above_middle x y z =
    let s = num y * den z + num z * den y in
    let d = den y * den z in
    s * s * den x < 4 * num x * (d * d)

-- √x lies on y's side of the middle of y and z, and not in the middle: y is nearer to it than z, where the two differ
abbrev pub nearer_root : Float → Float → Float → Type 0
nearer_root x y z = (T (lt y z) → root_below_middle x y z) × (T (lt z y) → root_above_middle x y z)
