-- `vector_surface_formulas::entries::row` meets its contract. The invariant: the sum of the terms passed. Assumes nothing.
use Rattle.std.proofs.Common.{◌≡◌}
use Rattle.calculus.specs.InTurn.{in_turn}
use Rattle.vector_formulas.specs.Vector.{vectors, vector_surface_numbers}
use Rattle.formulas.specs.Numbers.{surface_numbers}
use Rattle.vector_surface_formulas.specs.Inner.{term_by}
use Rattle.vector_surface_formulas.proofs.entries.row.Given as goal

abbrev pub invariant-loop-j : goal.invariant-loop-j
invariant-loop-j l = l.sum ≡ in_turn vectors.plus l.fn.start (term_by l.f (vector_surface_numbers l.a) (vector_surface_numbers l.b) (surface_numbers l.w) l.m l.n l.i) l.j
