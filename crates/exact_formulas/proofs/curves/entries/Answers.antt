-- `exact_formulas::curves::entries` meets its contract. Assumes nothing.
use Rattle.std.proofs.Common.{rules, arith, sym, ◌∙◌}
use Rattle.exact_formulas.specs.Entries.{curve_values}
use Rattle.exact_formulas.proofs.Terms.{handed}
use Rattle.exact_formulas.proofs.Progress.{curve-begins, curve-goes-on, curve-stops, curve-ends}
use Rattle.exact_formulas.proofs.Earlier.{curve_rising, curve-formed}
use Rattle.exact_formulas.proofs.curves.entries.Goals as goal

pub loop-m-init : goal.loop-m-init
loop-m-init c = curve-begins (curve_rising c.args.op (curve_values c.args.a.now) (curve_values c.args.b.now)) c.args.n

pub returns-in_err-r : goal.returns-in_err-r
returns-in_err-r c =
    let a = c.args in
    handed c.from_residual.ensures
    ∙ curve-stops c.loop-m.invariant (omega arith)
    (curve-formed a.op (curve_values a.a.now) (curve_values a.b.now) c.loop-m.invariant (omega arith) ∙ sym c.in_err-r.ensures)

pub loop-m-preserved : goal.loop-m-preserved
loop-m-preserved c =
    let a = c.args in
    curve-goes-on c.loop-m.invariant c.requires (omega arith) (search rules)
    (curve-formed a.op (curve_values a.a.now) (curve_values a.b.now) c.loop-m.invariant (omega arith) ∙ sym c.in_ok-r.ensures)

pub returns : goal.returns
returns c = curve-ends c.loop-m.invariant (omega arith)
