-- Floats of 64 bits as a kind of number: the operations of IEEE 754 at binary64, each rounded to nearest, ties to even. Assumes nothing.
use Rattle.std.specs.Prelude.{Bool, pos, Float}
use Rattle.std.specs.Float.Ieee
use Rattle.std.specs.Float.{binary64}
use Rattle.std.specs.Float.Ieee.{of_bits, of_int}
use Rattle.ieee_vectors.specs.Vectors.{positive_zero}
use Rattle.calculus.specs.Kind.{Kind}

abbrev pub real : Kind Float
real = record {
  zero = positive_zero;
  one = of_bits binary64 0x3ff0_0000_0000_0000;
  plus = Ieee.add binary64;
  minus = Ieee.sub binary64;
  times = Ieee.mul binary64;
  over = Ieee.div binary64;
  of_nat = λ n. of_int binary64 (pos n);
}

-- a zero of either sign
abbrev pub is_zero : Float → Bool
is_zero x = Ieee.eq x positive_zero
