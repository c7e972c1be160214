-- `float_carry::floats::Carried::derivatives` meets its contract. The invariant: the entries passed stand in the array. Assumes nothing.
use Rattle.formulas.proofs.Curves.{CurveFilled}
use Rattle.float_carry.proofs.Carries.{carried_jet}
use Rattle.float_carry.proofs.floats.Carried.derivatives.Given as goal

abbrev pub invariant-loop-m : goal.invariant-loop-m
invariant-loop-m l = CurveFilled (carried_jet l.self.entries.now l.self.u.now l.self.v.now) l.m l.r
