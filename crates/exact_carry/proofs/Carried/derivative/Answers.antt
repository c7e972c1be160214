-- `exact_carry::Carried::derivative` meets its contract. Assumes nothing.
use Rattle.std.proofs.Common.{rules, ◌≡◌, suc, ◌+◌, ◌-◌, refl, ap, ap₂, ◌∙◌, arith, Ok, FitsSigned, w64}
use Rattle.std.proofs.Math.Facts.{to_z-of_z}
use Rattle.partitions.specs.Parts.{lists}
use Rattle.calculus.specs.Carry.{through_len}
use Rattle.calculus.specs.InTurn.{along_list}
use Rattle.exact_formulas.specs.Kinds.{checked}
use Rattle.exact_formulas.proofs.Terms.{handed}
use Rattle.exact_carry.proofs.Masks.{terms, through, through-stays}
use Rattle.exact_carry.proofs.Carried.derivative.Goals as goal

pub loop-len-init : goal.loop-len-init
unfolding through_len
loop-len-init c = refl

pub returns-in_err-total : goal.returns-in_err-total
unfolding through_len
returns-in_err-total c =
    let s = c.args in
    let t = terms s.self.now.entries.now s.self.now.u.now s.self.now.v.now in
    let j : c.loop-len.len ≡ suc (c.loop-len.len - 1) = omega arith in
    handed c.from_residual.ensures
    ∙ through-stays s.self.now.entries.now s.self.now.u.now s.self.now.v.now c.min-n.result (suc (c.loop-len.len - 1)) (c.min-n.result - c.loop-len.len) c.min-n.result (omega arith)
    (c.in_err-total.ensures ∙ ap₂ (λ x n. along_list checked.plus x t (lists c.min-n.result n)) c.loop-len.invariant j)
    ∙ ap₂ (through s.self.now.entries.now s.self.now.u.now s.self.now.v.now) c.min-n.ensures c.min-n.ensures

pub loop-len-preserved : goal.loop-len-preserved
unfolding through_len
loop-len-preserved c =
    let s = c.args in
    let t = terms s.self.now.entries.now s.self.now.u.now s.self.now.v.now in
    let j : c.loop-len.len ≡ suc (c.loop-len.len - 1) = omega arith in
    let k : c.loop-len.len + 1 - 1 ≡ suc (c.loop-len.len - 1) = omega arith in
    let f : FitsSigned w64 c.in_ok-total.total = search rules in
    rw k (ap Ok (to_z-of_z f) ∙ c.in_ok-total.ensures ∙ ap₂ (λ x n. along_list checked.plus x t (lists c.min-n.result n)) c.loop-len.invariant j)

pub returns : goal.returns
returns c =
    let s = c.args in
    let e : c.loop-len.len - 1 ≡ c.min-n.result = omega arith in
    c.loop-len.invariant ∙ ap₂ (through s.self.now.entries.now s.self.now.u.now s.self.now.v.now) c.min-n.ensures (e ∙ c.min-n.ensures)
