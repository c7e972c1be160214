-- `exact_carry::Carried::derivatives` meets its contract. Assumes nothing.
use Rattle.std.proofs.Common.{rules, sym, ap, ◌∙◌, arith}
use Rattle.exact_formulas.specs.Entries.{formed_curve}
use Rattle.exact_formulas.proofs.Terms.{handed}
use Rattle.exact_formulas.proofs.Progress.{curve-begins, curve-goes-on, curve-stops, curve-ends}
use Rattle.exact_carry.proofs.Masks.{carried_jet}
use Rattle.exact_carry.proofs.Carried.derivatives.Goals as goal

pub loop-m-init : goal.loop-m-init
loop-m-init c = let s = c.args in curve-begins (carried_jet s.self.now.entries.now s.self.now.u.now s.self.now.v.now) c.min-n.result

pub returns-in_err-r : goal.returns-in_err-r
returns-in_err-r c =
    let s = c.args in
    handed c.from_residual.ensures
    ∙ curve-stops c.loop-m.invariant (omega arith) (sym c.in_err-r.ensures)
    ∙ ap (formed_curve (carried_jet s.self.now.entries.now s.self.now.u.now s.self.now.v.now)) c.min-n.ensures

pub loop-m-preserved : goal.loop-m-preserved
loop-m-preserved c = curve-goes-on c.loop-m.invariant (omega arith) (omega arith) (search rules) (sym c.in_ok-r.ensures)

pub returns : goal.returns
returns c =
    let s = c.args in
    curve-ends c.loop-m.invariant (omega arith) ∙ ap (formed_curve (carried_jet s.self.now.entries.now s.self.now.u.now s.self.now.v.now)) c.min-n.ensures
