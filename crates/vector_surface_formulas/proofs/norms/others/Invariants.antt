-- `vector_surface_formulas::norms::others` meets its contract. The invariant: the sum of the terms passed. Assumes nothing.
use Rattle.std.proofs.Common.{◌≡◌, suc}
use Rattle.ieee_vectors.specs.Vectors.{positive_zero}
use Rattle.formulas.specs.Numbers.{surface_numbers}
use Rattle.vector_surface_formulas.specs.Inner.{with_other}
use Rattle.calculus.specs.InTurn.{in_rows}
use Rattle.vector_surface_formulas.proofs.norms.others.Given as goal

abbrev pub invariant-loop-i : goal.invariant-loop-i
invariant-loop-i l = l.sum ≡ in_rows (with_other (surface_numbers l.q) l.m l.n) positive_zero (λ i' j. (i', j)) l.i (suc l.n)
