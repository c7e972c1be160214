-- `formulas::surface_entries::product_entry` meets its contract. The invariant: the sum of the first i rows of terms. Assumes nothing.
use Rattle.std.proofs.Common.{◌≡◌, suc}
use Rattle.calculus.specs.Surface.{leibniz}
use Rattle.calculus.specs.InTurn.{in_rows}
use Rattle.calculus.specs.Kind.{regular}
use Rattle.ieee_vectors.specs.Vectors.{positive_zero}
use Rattle.formulas.specs.Real.{real}
use Rattle.formulas.specs.Numbers.{surface_numbers}
use Rattle.formulas.proofs.surface_entries.product_entry.Given as goal

abbrev pub invariant-loop-i : goal.invariant-loop-i
invariant-loop-i l = l.sum ≡ in_rows real.plus positive_zero (leibniz (regular real) real.times (surface_numbers l.a) (surface_numbers l.b) l.m l.n) l.i (suc l.n)
