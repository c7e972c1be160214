-- `vector_formulas::entries::rational_entry` meets its contract. The invariant: the sum of the terms before i, of which there are none at the order 0. Assumes nothing.
use Rattle.std.proofs.Common.{◌≡◌, suc, ◌-◌, ◌≤◌}
use Rattle.calculus.specs.InTurn.{in_turn}
use Rattle.formulas.specs.Numbers.{curve_numbers}
use Rattle.vector_formulas.specs.Vector.{vectors, vector_numbers}
use Rattle.calculus.specs.Rational.{rational_term}
use Rattle.ieee_vectors.specs.Vectors.{multiple, quotient}
use Rattle.vector_formulas.proofs.entries.rational_entry.Given as goal

abbrev pub invariant-loop-i : goal.invariant-loop-i
invariant-loop-i l = (l.sum ≡ in_turn vectors.plus (multiple (vector_numbers l.q 0) (curve_numbers l.w l.m)) (λ k. rational_term vectors quotient (curve_numbers l.w) (vector_numbers l.q) l.m (suc k)) (l.i - 1))
    × (l.i - 1 ≤ l.m - 1)
