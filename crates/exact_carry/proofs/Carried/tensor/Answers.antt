-- `exact_carry::Carried::tensor` meets its contract. Assumes nothing.
use Rattle.std.proofs.Common.{rules, ◌∙◌, ◌+ℤ◌, arith}
use Rattle.calculus.proofs.LoopBits.{mask-below, few-ones}
use Rattle.whole.specs.Checked.{formed}
use Rattle.exact_formulas.specs.Kinds.{checked}
use Rattle.exact_formulas.proofs.Terms.{begins, term-stops, sum-stops, goes-on, handed}
use Rattle.exact_carry.proofs.Masks.{term_of, term-refused, term-formed}
use Rattle.exact_carry.proofs.Carried.tensor.Goals as goal

pub loop-mask-init : goal.loop-mask-init
loop-mask-init c =
    let s = c.args.self.now in
    begins checked.plus (term_of s.entries.now s.u.now s.v.now c.args.parts.now.list.now)

pub overflow_sub-e : goal.overflow_sub-e
overflow_sub-e c =
    let p = c.args.parts.now in
    omega (arith, few-ones p.list.now p.short c.loop-mask-test.true)

pub returns-in_err-factors : goal.returns-in_err-factors
returns-in_err-factors c =
    let s = c.args.self.now in
    let p = c.args.parts.now in
    let below = mask-below p.list.now p.short c.loop-mask-test.true in
    handed c.from_residual.ensures
    ∙ term-stops (λ x y. formed (x +ℤ y)) checked.zero (term_of s.entries.now s.u.now s.v.now p.list.now) c.loop-mask.invariant below
    (term-refused s.entries.now s.u.now s.v.now p.list.now c.loop-mask.mask below c.in_err-factors.ensures)

pub returns-in_err-term : goal.returns-in_err-term
returns-in_err-term c =
    let s = c.args.self.now in
    let p = c.args.parts.now in
    let below = mask-below p.list.now p.short c.loop-mask-test.true in
    handed c.from_residual-in_err-term.ensures
    ∙ term-stops (λ x y. formed (x +ℤ y)) checked.zero (term_of s.entries.now s.u.now s.v.now p.list.now) c.loop-mask.invariant below
    (c.in_err-term.ensures ∙ term-formed s.entries.now s.u.now s.v.now p.list.now c.loop-mask.mask below (search rules) (search rules) c.in_ok-factors.ensures)

pub returns-in_err-sum : goal.returns-in_err-sum
returns-in_err-sum c =
    let s = c.args.self.now in
    let p = c.args.parts.now in
    let below = mask-below p.list.now p.short c.loop-mask-test.true in
    handed c.from_residual-in_err-sum.ensures
    ∙ sum-stops (λ x y. formed (x +ℤ y)) checked.zero (term_of s.entries.now s.u.now s.v.now p.list.now) c.loop-mask.invariant below (search rules)
    (c.in_ok-term.ensures ∙ term-formed s.entries.now s.u.now s.v.now p.list.now c.loop-mask.mask below (search rules) (search rules) c.in_ok-factors.ensures) c.in_err-sum.ensures

pub loop-mask-preserved : goal.loop-mask-preserved
loop-mask-preserved c =
    let s = c.args.self.now in
    let p = c.args.parts.now in
    let below = mask-below p.list.now p.short c.loop-mask-test.true in
    goes-on (λ x y. formed (x +ℤ y)) checked.zero (term_of s.entries.now s.u.now s.v.now p.list.now) c.loop-mask.invariant (search rules) (search rules)
    (c.in_ok-term.ensures ∙ term-formed s.entries.now s.u.now s.v.now p.list.now c.loop-mask.mask below (search rules) (search rules) c.in_ok-factors.ensures) c.in_ok-sum.ensures
