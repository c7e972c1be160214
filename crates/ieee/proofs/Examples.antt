-- The definition at some values, computed: by bit patterns, since a clause has no float literals. Assumes nothing.
use Rattle.std.proofs.Common.{◌≡◌, refl, true, false, ℕ}
use lib.Ieee.{nan, inf, binary64, of_bits, to_bits}
use Rattle.ieee.specs.SquareRoot.{square_root}

-- the bits of the root of the float with the bits b
abbrev pub root_bits : ℕ → ℕ
root_bits b = to_bits binary64 (square_root (of_bits binary64 b))

pub root-of-two : root_bits 0x4000_0000_0000_0000 ≡ 0x3FF6_A09E_667F_3BCD
unfolding square_root to_bits of_bits
root-of-two = refl

-- 4.0 and 2.0
pub root-of-four : root_bits 0x4010_0000_0000_0000 ≡ 0x4000_0000_0000_0000
unfolding square_root to_bits of_bits
root-of-four = refl

pub root-of-zero : root_bits 0 ≡ 0
unfolding square_root to_bits of_bits
root-of-zero = refl

-- −0 is its own root
pub root-of-minus-zero : root_bits 0x8000_0000_0000_0000 ≡ 0x8000_0000_0000_0000
unfolding square_root to_bits of_bits
root-of-minus-zero = refl

-- the smallest value, 2 ^ -1074, and 2 ^ -537
pub root-of-smallest : root_bits 1 ≡ 0x1E60_0000_0000_0000
unfolding square_root to_bits of_bits
root-of-smallest = refl

-- the largest value
pub root-of-largest : root_bits 0x7FEF_FFFF_FFFF_FFFF ≡ 0x5FEF_FFFF_FFFF_FFFF
unfolding square_root to_bits of_bits
root-of-largest = refl

-- −1.0, −∞ and ∞
pub root-of-minus-one : square_root (of_bits binary64 0xBFF0_0000_0000_0000) ≡ nan
unfolding square_root of_bits
root-of-minus-one = refl

pub root-of-minus-infinity : square_root (inf true) ≡ nan
unfolding square_root
root-of-minus-infinity = refl

pub root-of-infinity : square_root (inf false) ≡ inf false
unfolding square_root
root-of-infinity = refl
