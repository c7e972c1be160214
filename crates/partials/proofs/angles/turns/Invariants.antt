-- `turns` meets its contract. Assumes nothing.
use Rattle.formulas.proofs.Curves.{CurveFilled}
use Rattle.formulas.specs.Numbers.{curve_numbers}
use Rattle.partials.specs.AxisAngle.{turns}
use Rattle.partials.proofs.angles.turns.Given as goal

abbrev pub invariant-loop-m : goal.invariant-loop-m
invariant-loop-m l = CurveFilled (turns (curve_numbers l.rate) (curve_numbers l.dot) (curve_numbers l.length)) l.m l.q
