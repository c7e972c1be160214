-- `capi_roads::Lists::entries_fit` meets its contract. Assumes nothing.
use Rattle.std.specs.Prelude.{◌≡◌, ◌+◌, length, take}
use Rattle.capi_roads.specs.Recipes.{total}
use Rattle.capi_roads.proofs.lists.Lists.entries_fit.Given as goal

abbrev pub invariant-loop-n : goal.invariant-loop-n
invariant-loop-n g l = length l.self.entries.now ≡ total g.J.Jets.size (take l.n-index l.self.orders.now) + l.rest
