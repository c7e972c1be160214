-- `roads::Recipe<SurfaceDerivatives>::carry_then_build` meets its contract. Assumes nothing.
use Rattle.std.proofs.Common.{◌≡◌, List, Result, length, take, ap, ◌∙◌, rules}
use Rattle.refusals.specs.declared.Refusal.{Refusal}
use Rattle.exact.specs.declared.CurveDerivatives.{CurveDerivatives}
use Rattle.exact.specs.Composite.{along_curve}
use Rattle.roads.specs.Recipe.{and_then}
use Rattle.roads.specs.Roads.{curve_steps, built_curve}
use Rattle.roads.proofs.Answers.{passed-on}
use Rattle.roads.proofs.Building.{built-same}
use Rattle.roads.proofs.Carrying.{all-stop, all-carried, taken}
use Rattle.roads.proofs.roads.Recipe+SurfaceDerivatives.carry_then_build.Goals as goal

pub returns-in_err-jets : goal.returns-in_err-jets
returns-in_err-jets c =
    let r = c.args.self in
    let four : length r.jets ≡ 4 = search rules in
    passed-on c.from_residual.ensures.1
    ∙ ap (λ (a : Result (List CurveDerivatives) Refusal). and_then a (λ l. built_curve (record { inputs = r.inputs; jets = l; steps = r.steps; program = r.program })))
    (all-stop (λ s. along_curve s c.args.curve c.args.order) r.jets four r.inputs c.min-count.result c.min-count.ensures c.in_err-jets.ensures)

pub returns : goal.returns
returns c =
    let r = c.args.self in
    let l = c.in_ok-jets.jets in
    let four : length r.jets ≡ 4 = search rules in
    let long : length l ≡ 4 = search rules in
    c.build.ensures ∙ built-same curve_steps r.inputs r.steps r.program l (take r.inputs l) (taken r.inputs l)
    ∙ ap (λ (a : Result (List CurveDerivatives) Refusal). and_then a (λ l. built_curve (record { inputs = r.inputs; jets = l; steps = r.steps; program = r.program })))
    (all-carried (λ s. along_curve s c.args.curve c.args.order) r.jets four r.inputs c.min-count.result c.min-count.ensures l long c.in_ok-jets.ensures)
