-- `capi_roads::recipes::over_recipe` meets its contract. Assumes nothing.
use Rattle.std.proofs.Common.{length}
use Rattle.given.proofs.Admission.{answered-0}
use Rattle.capi_roads.proofs.RecipeChecks.{recipe-fits, fits-memory}
use Rattle.capi_roads.proofs.recipes.over_recipe.Goals as goal

pub read-requires : goal.read-requires
read-requires g c =
    let s = c.args.lists in
    (fits-memory _ _ g.met.J.Jets.aligned g.met.J.Jet.small, recipe-fits g.J.Jets.size s.orders.now (length s.entries.now) g.J.Lent.output.test s.steps.now (length c.args.out.now) c.test.ensures (answered-0 c.in_ok-test.was))
