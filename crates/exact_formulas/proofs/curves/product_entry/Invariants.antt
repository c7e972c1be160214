-- `exact_formulas::curves::product_entry` meets its contract. The invariant: the sum is that of the terms passed. Assumes nothing.
use Rattle.std.proofs.Common.{◌≡◌, Ok}
use Rattle.calculus.specs.Kind.{regular}
use Rattle.calculus.specs.InTurn.{in_turn}
use Rattle.calculus.specs.Curve.{leibniz}
use Rattle.exact_formulas.specs.Kinds.{checked}
use Rattle.exact_formulas.specs.Entries.{curve_values}
use Rattle.exact_formulas.proofs.curves.product_entry.Given as goal

abbrev pub invariant-loop-i : goal.invariant-loop-i
invariant-loop-i l = Ok l.sum ≡ in_turn checked.plus checked.zero (leibniz (regular checked) checked.times (curve_values l.a) (curve_values l.b) l.m) l.i
