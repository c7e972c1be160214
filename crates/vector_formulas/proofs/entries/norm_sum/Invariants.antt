-- `vector_formulas::entries::norm_sum` meets its contract. The invariant: the sum of the first i terms. Assumes nothing.
use Rattle.std.proofs.Common.{◌≡◌}
use Rattle.calculus.specs.InTurn.{in_turn}
use Rattle.formulas.specs.Numbers.{curve_numbers}
use Rattle.vector_formulas.specs.Vector.{vector_numbers}
use Rattle.ieee_vectors.specs.Vectors.{positive_zero, dot}
use Rattle.formulas.specs.Real.{real}
use Rattle.calculus.specs.Norm.{norm_term}
use Rattle.ieee.specs.SquareRoot.{square_root}
use Rattle.vector_formulas.proofs.entries.norm_sum.Given as goal

abbrev pub invariant-loop-i : goal.invariant-loop-i
invariant-loop-i l = l.sum ≡ in_turn real.plus positive_zero (norm_term real square_root dot (vector_numbers l.s) (curve_numbers l.q) l.m) l.i
