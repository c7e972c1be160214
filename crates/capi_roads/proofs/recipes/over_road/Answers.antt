-- `capi_roads::recipes::over_road` meets its contract. Assumes nothing.
use Rattle.std.proofs.Common.{length, rules}
use Rattle.given.proofs.Admission.{answered-0}
use Rattle.capi_roads.proofs.RecipeChecks.{road-fits}
use Rattle.capi_roads.proofs.recipes.over_road.Goals as goal

pub read-requires : goal.read-requires
read-requires g c =
    let s = c.args in
    let l = s.lists in
    (search rules, road-fits l.orders.now (length l.entries.now) l.steps.now s.c_order (length s.c.now) s.n (length s.out.now) c.test_road.ensures (answered-0 c.in_ok-test_road.was))
