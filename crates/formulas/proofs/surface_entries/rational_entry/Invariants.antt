-- `formulas::surface_entries::rational_entry` meets its contract. The invariant: the sum of the first i rows of terms. Assumes nothing.
use Rattle.std.proofs.Common.{◌≡◌, suc}
use Rattle.calculus.specs.Rational.{surface_rational_term}
use Rattle.calculus.specs.InTurn.{in_rows}
use Rattle.calculus.specs.Kind.{regular}
use Rattle.ieee_vectors.specs.Vectors.{positive_zero}
use Rattle.formulas.specs.Real.{real}
use Rattle.formulas.specs.Numbers.{surface_numbers}
use Rattle.formulas.proofs.surface_entries.rational_entry.Given as goal

abbrev pub invariant-loop-i : goal.invariant-loop-i
invariant-loop-i l = l.sum ≡ in_rows real.plus positive_zero (surface_rational_term (regular real) real.over (surface_numbers l.w) (surface_numbers l.q) l.m l.n) l.i (suc l.n)
