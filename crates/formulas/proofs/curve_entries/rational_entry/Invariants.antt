-- `formulas::curve_entries::rational_entry` meets its contract. The invariant: the sum of the terms before i, of which there are none at the order 0. Assumes nothing.
use Rattle.std.proofs.Common.{◌≡◌, suc, ◌-◌, ◌≤◌}
use Rattle.calculus.specs.Rational.{rational_term}
use Rattle.calculus.specs.InTurn.{in_turn}
use Rattle.calculus.specs.Kind.{regular}
use Rattle.formulas.specs.Real.{real}
use Rattle.formulas.specs.Numbers.{curve_numbers}
use Rattle.formulas.proofs.curve_entries.rational_entry.Given as goal

abbrev pub invariant-loop-i : goal.invariant-loop-i
invariant-loop-i l =
    (l.sum ≡ in_turn real.plus (real.times (curve_numbers l.q 0) (curve_numbers l.w l.m)) (λ i. rational_term (regular real) real.over (curve_numbers l.w) (curve_numbers l.q) l.m (suc i)) (l.i - 1))
    × (l.i - 1 ≤ l.m - 1)
