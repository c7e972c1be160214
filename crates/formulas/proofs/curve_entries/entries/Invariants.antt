-- `formulas::curve_entries::entries` meets its contract. The invariant: the entries before m stand in the array. Assumes nothing.
use Rattle.formulas.proofs.Curves.{CurveFilled, curve_of}
use Rattle.formulas.specs.Numbers.{curve_numbers}
use Rattle.formulas.proofs.curve_entries.entries.Given as goal

abbrev pub invariant-loop-m : goal.invariant-loop-m
invariant-loop-m l = CurveFilled (curve_of l.f (curve_numbers l.a) (curve_numbers l.b)) l.m l.r
