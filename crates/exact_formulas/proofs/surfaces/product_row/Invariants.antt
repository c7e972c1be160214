-- `exact_formulas::surfaces::product_row` meets its contract. The invariant: the sum is that of the terms passed. Assumes nothing.
use Rattle.std.proofs.Common.{◌≡◌, Ok}
use Rattle.calculus.specs.Kind.{regular}
use Rattle.calculus.specs.InTurn.{in_turn}
use Rattle.calculus.specs.Surface.{leibniz}
use Rattle.exact_formulas.specs.Kinds.{checked}
use Rattle.exact_formulas.specs.Entries.{surface_values}
use Rattle.exact_formulas.proofs.surfaces.product_row.Given as goal

abbrev pub invariant-loop-j : goal.invariant-loop-j
invariant-loop-j l = Ok l.sum ≡ in_turn checked.plus (Ok l.start) (leibniz (regular checked) checked.times (surface_values l.a) (surface_values l.b) l.m l.n l.i) l.j
