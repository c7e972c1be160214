-- `roads::recipes::work` meets its contract. The invariant: what is left to work, on the jets in hand, comes to the whole. Assumes nothing.
use Rattle.roads.proofs.Working.{Working}
use Rattle.roads.proofs.recipes.work.Given as goal

abbrev pub invariant-loop-i : goal.invariant-loop-i
invariant-loop-i g l = Working g.J.Jet.kind l.initial.jet_of l.inputs l.program l.jet_of l.i
