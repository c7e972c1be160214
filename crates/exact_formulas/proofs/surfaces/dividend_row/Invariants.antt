-- `exact_formulas::surfaces::dividend_row` meets its contract. The invariant: the terms passed are subtracted. Assumes nothing.
use Rattle.std.proofs.Common.{◌≡◌, ◌+◌, ◌-◌, ◌≤◌, Ok}
use Rattle.calculus.specs.Kind.{regular}
use Rattle.calculus.specs.InTurn.{in_turn}
use Rattle.calculus.specs.Surface.{leibniz}
use Rattle.exact_formulas.specs.Kinds.{checked}
use Rattle.exact_formulas.specs.Entries.{surface_values}
use Rattle.exact_formulas.proofs.surfaces.dividend_row.Given as goal

abbrev pub invariant-loop-j : goal.invariant-loop-j
invariant-loop-j l =
    (Ok l.rest ≡ in_turn checked.minus (Ok l.start) (λ k. leibniz (regular checked) checked.times (surface_values l.d) (surface_values l.q) l.m l.n l.i (l.from + k)) (l.j - l.from)) × (l.from ≤ l.j)
