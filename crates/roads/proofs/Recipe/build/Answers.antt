-- `roads::Recipe::build` meets its contract. Assumes nothing.
use Rattle.std.proofs.Common.{◌∙◌, rules}
use Rattle.roads.proofs.Building.{Given, too-high, ill-formed, builds}
use Rattle.roads.proofs.Recipe.build.Goals as goal

pub returns-then-some_above_20 : goal.returns-then-some_above_20
returns-then-some_above_20 g c =
    let r = c.args.self in
    let given : Given g.J.Jet.kind r.jets r.inputs c.orders-all.result c.min-count.result = record { four = search rules; all = c.orders-all.ensures; count = c.min-count.ensures } in
    too-high given r.steps r.program c.if-some_above_20.ensures

pub returns-then-not-well_formed : goal.returns-then-not-well_formed
returns-then-not-well_formed g c =
    let r = c.args.self in
    let given : Given g.J.Jet.kind r.jets r.inputs c.orders-all.result c.min-count.result = record { four = search rules; all = c.orders-all.ensures; count = c.min-count.ensures } in
    ill-formed given r.steps r.program c.if-some_above_20.ensures c.if-not-well_formed.ensures

pub returns : goal.returns
returns g c =
    let r = c.args.self in
    let given : Given g.J.Jet.kind r.jets r.inputs c.orders-all.result c.min-count.result = record { four = search rules; all = c.orders-all.ensures; count = c.min-count.ensures } in
    c.work.ensures ∙ builds given r.steps r.program c.if-some_above_20.ensures c.if-not-well_formed.ensures c.smallest-order.ensures c.cut-jet_of.result c.cut-jet_of.ensures
