-- `exact_formulas::curves::entries` meets its contract. The invariant: the entries passed stand in the array. Assumes nothing.
use Rattle.exact_formulas.specs.Entries.{curve_values}
use Rattle.exact_formulas.proofs.Progress.{CurveProgress}
use Rattle.exact_formulas.proofs.Earlier.{curve_rising}
use Rattle.exact_formulas.proofs.curves.entries.Given as goal

abbrev pub invariant-loop-m : goal.invariant-loop-m
invariant-loop-m l = CurveProgress (curve_rising l.op (curve_values l.a) (curve_values l.b)) l.n l.m l.r
