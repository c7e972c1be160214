-- `roads::recipes::cut` meets its contract. The invariant: the jets passed are in hand, at the order of work. Assumes nothing.
use Rattle.std.specs.Prelude.{◌≡◌, ℕ, ◌<◌, get_or}
use Rattle.roads.proofs.recipes.cut.Given as goal

abbrev pub invariant-loop-i : goal.invariant-loop-i
invariant-loop-i g l = (k : ℕ) → k < l.i → get_or l.jet_of k g.J.Jet.kind.blank ≡ g.J.Jet.kind.cut l.order (get_or l.given k g.J.Jet.kind.blank)
