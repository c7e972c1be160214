-- `vector_surface_formulas::entries::sum_of_terms` meets its contract. The invariant: the sum of the rows passed. Assumes nothing.
use Rattle.std.proofs.Common.{◌≡◌, suc}
use Rattle.calculus.specs.InTurn.{in_rows}
use Rattle.vector_formulas.specs.Vector.{origin, vectors, vector_surface_numbers}
use Rattle.formulas.specs.Numbers.{surface_numbers}
use Rattle.vector_surface_formulas.specs.Inner.{term_by}
use Rattle.vector_surface_formulas.proofs.entries.sum_of_terms.Given as goal

abbrev pub invariant-loop-i : goal.invariant-loop-i
invariant-loop-i l = l.sum ≡ in_rows vectors.plus origin (term_by l.f (vector_surface_numbers l.a) (vector_surface_numbers l.b) (surface_numbers l.w) l.m l.n) l.i (suc l.n)
