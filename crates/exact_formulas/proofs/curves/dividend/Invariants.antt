-- `exact_formulas::curves::dividend` meets its contract. The invariant: the terms passed are subtracted. Assumes nothing.
use Rattle.std.proofs.Common.{◌≡◌, suc, Ok}
use Rattle.calculus.specs.Kind.{regular}
use Rattle.calculus.specs.InTurn.{in_turn}
use Rattle.calculus.specs.Curve.{leibniz}
use Rattle.exact_formulas.specs.Kinds.{checked}
use Rattle.exact_formulas.specs.Entries.{curve_values}
use Rattle.exact_formulas.proofs.curves.dividend.Given as goal

abbrev pub invariant-loop-i : goal.invariant-loop-i
invariant-loop-i l = Ok l.rest ≡ in_turn checked.minus (curve_values l.num l.m) (λ i. leibniz (regular checked) checked.times (curve_values l.d) (curve_values l.q) l.m (suc i)) l.i
