-- `roads::roads::carry_each` meets its contract. The invariant: what is left to carry comes to the whole. Assumes nothing.
use Rattle.exact.specs.Composite.{along_curve}
use Rattle.roads.specs.Roads.{surface_steps}
use Rattle.roads.proofs.Carrying.{Carrying}
use Rattle.roads.proofs.roads.carry_each.Given as goal

abbrev pub invariant-loop-i : goal.invariant-loop-i
invariant-loop-i l = Carrying (λ s. along_curve s l.curve l.order) surface_steps.blank l.given l.curves l.i
