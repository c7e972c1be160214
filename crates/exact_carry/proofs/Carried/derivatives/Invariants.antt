-- `exact_carry::Carried::derivatives` meets its contract. The invariant: the entries passed stand in the array. Assumes nothing.
use Rattle.exact_formulas.proofs.Progress.{CurveProgress}
use Rattle.exact_carry.proofs.Masks.{carried_jet}
use Rattle.exact_carry.proofs.Carried.derivatives.Given as goal

abbrev pub invariant-loop-m : goal.invariant-loop-m
invariant-loop-m l = CurveProgress (carried_jet l.self.entries.now l.self.u.now l.self.v.now) l.n l.m l.r
