-- `vector_surface_formulas::norms::others_row` meets its contract. The invariant: the sum of the terms passed. Assumes nothing.
use Rattle.std.proofs.Common.{◌≡◌}
use Rattle.formulas.specs.Numbers.{surface_numbers}
use Rattle.vector_surface_formulas.specs.Inner.{with_other}
use Rattle.calculus.specs.InTurn.{in_turn}
use Rattle.vector_surface_formulas.proofs.norms.others_row.Given as goal

abbrev pub invariant-loop-j : goal.invariant-loop-j
invariant-loop-j l = l.sum ≡ in_turn (with_other (surface_numbers l.q) l.m l.n) l.start (λ j'. (l.i, j')) l.j
