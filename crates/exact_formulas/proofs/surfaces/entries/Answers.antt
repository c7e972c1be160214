-- `exact_formulas::surfaces::entries` meets its contract. Assumes nothing.
use Rattle.std.proofs.Common.{rules, arith, sym, ◌∙◌}
use Rattle.exact_formulas.specs.Entries.{surface_values}
use Rattle.exact_formulas.proofs.Terms.{handed}
use Rattle.exact_formulas.proofs.Progress.{surface-begins, surface-goes-on, surface-turns, surface-stops, surface-ends}
use Rattle.exact_formulas.proofs.Earlier.{surface_rising, surface-formed}
use Rattle.exact_formulas.proofs.surfaces.entries.Goals as goal

pub loop-i-init : goal.loop-i-init
loop-i-init c = surface-begins (surface_rising c.args.op (surface_values c.args.a.now) (surface_values c.args.b.now)) c.requires

pub returns-in_err-r : goal.returns-in_err-r
returns-in_err-r c =
    let a = c.args in
    handed c.from_residual.ensures
    ∙ surface-stops c.loop-j.invariant (omega arith)
    (surface-formed a.op (surface_values a.a.now) (surface_values a.b.now) c.loop-j.invariant (omega arith) ∙ sym c.in_err-r.ensures)

pub loop-j-preserved : goal.loop-j-preserved
loop-j-preserved c =
    let a = c.args in
    surface-goes-on c.loop-j.invariant (omega arith) (search rules)
    (surface-formed a.op (surface_values a.a.now) (surface_values a.b.now) c.loop-j.invariant (omega arith) ∙ sym c.in_ok-r.ensures)
    c.index.ensures.value

pub loop-i-preserved : goal.loop-i-preserved
loop-i-preserved c = surface-turns c.loop-j.invariant (omega arith)

pub returns : goal.returns
returns c = surface-ends c.loop-i.invariant (omega arith)
