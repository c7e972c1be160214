-- `rates` meets its contract. Assumes nothing.
use Rattle.formulas.proofs.Curves.{CurveFilled}
use Rattle.formulas.specs.Numbers.{curve_numbers}
use Rattle.partials.specs.AxisAngle.{rates}
use Rattle.partials.proofs.angles.rates.Given as goal

abbrev pub invariant-loop-m : goal.invariant-loop-m
invariant-loop-m l = CurveFilled (rates (curve_numbers l.r)) l.m l.q
