-- `formulas::surface_entries::product_row` meets its contract. The invariant: the sum of the first j terms of the row. Assumes nothing.
use Rattle.std.proofs.Common.{◌≡◌}
use Rattle.calculus.specs.Surface.{leibniz}
use Rattle.calculus.specs.InTurn.{in_turn}
use Rattle.calculus.specs.Kind.{regular}
use Rattle.formulas.specs.Real.{real}
use Rattle.formulas.specs.Numbers.{surface_numbers}
use Rattle.formulas.proofs.surface_entries.product_row.Given as goal

abbrev pub invariant-loop-j : goal.invariant-loop-j
invariant-loop-j l = l.sum ≡ in_turn real.plus l.start (leibniz (regular real) real.times (surface_numbers l.a) (surface_numbers l.b) l.m l.n l.i) l.j
