-- Floats that the computed examples of this crate and of those above it share, by name. Assumes nothing.
use lib.Ieee.{Float, binary64, of_bits}

abbrev pub minus_one : Float
minus_one = of_bits binary64 0xBFF0_0000_0000_0000

abbrev pub one : Float
one = of_bits binary64 0x3FF0_0000_0000_0000

abbrev pub two : Float
two = of_bits binary64 0x4000_0000_0000_0000

abbrev pub three : Float
three = of_bits binary64 0x4008_0000_0000_0000

abbrev pub four : Float
four = of_bits binary64 0x4010_0000_0000_0000

abbrev pub five : Float
five = of_bits binary64 0x4014_0000_0000_0000

abbrev pub seven : Float
seven = of_bits binary64 0x401C_0000_0000_0000

-- 1e308
abbrev pub huge : Float
huge = of_bits binary64 0x7FE1_CCF3_85EB_C8A0
