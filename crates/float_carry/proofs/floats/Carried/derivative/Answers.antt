use Rattle.std.proofs.Common.{◌≡◌, suc, ◌+◌, ◌-◌, refl, ap₂, ◌∙◌, arith}
use Rattle.partitions.specs.Parts.{lists}
use Rattle.calculus.specs.Carry.{through_len}
use Rattle.calculus.specs.InTurn.{along_list}
use Rattle.calculus.specs.Kind.{regular}
use Rattle.formulas.specs.Real.{real}
use Rattle.formulas.specs.Numbers.{surface_numbers}
use Rattle.float_carry.proofs.Carries.{terms, through}
use Rattle.float_carry.proofs.floats.Carried.derivative.Goals as goal

pub loop-len-init : goal.loop-len-init
unfolding through_len
loop-len-init c = refl

pub loop-len-preserved : goal.loop-len-preserved
unfolding through_len
loop-len-preserved c =
    let s = c.args in
    let t = terms (regular real) (surface_numbers s.self.now.entries.now) s.self.now.u.now s.self.now.v.now in
    let j : c.loop-len.len ≡ suc (c.loop-len.len - 1) = omega arith in
    let k : c.loop-len.len + 1 - 1 ≡ suc (c.loop-len.len - 1) = omega arith in
    rw k (c.along_lists-total.ensures ∙ ap₂ (λ x n. along_list real.plus x t (lists c.min-n.result n)) c.loop-len.invariant j)

pub returns : goal.returns
returns c =
    let s = c.args in
    let e : c.loop-len.len - 1 ≡ c.min-n.result = omega arith in
    c.loop-len.invariant ∙ ap₂ (through (regular real) (surface_numbers s.self.now.entries.now) s.self.now.u.now s.self.now.v.now) c.min-n.ensures (e ∙ c.min-n.ensures)
