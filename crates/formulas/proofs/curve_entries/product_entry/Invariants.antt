-- `formulas::curve_entries::product_entry` meets its contract. The invariant: the sum of the first i terms. Assumes nothing.
use Rattle.std.proofs.Common.{◌≡◌}
use Rattle.calculus.specs.Curve.{leibniz}
use Rattle.calculus.specs.InTurn.{in_turn}
use Rattle.calculus.specs.Kind.{regular}
use Rattle.ieee_vectors.specs.Vectors.{positive_zero}
use Rattle.formulas.specs.Real.{real}
use Rattle.formulas.specs.Numbers.{curve_numbers}
use Rattle.formulas.proofs.curve_entries.product_entry.Given as goal

abbrev pub invariant-loop-i : goal.invariant-loop-i
invariant-loop-i l = l.sum ≡ in_turn real.plus positive_zero (leibniz (regular real) real.times (curve_numbers l.a) (curve_numbers l.b) l.m) l.i
