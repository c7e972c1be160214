-- `float_carry::floats::Carried::along_lists` meets its contract. Assumes nothing.
use Rattle.std.proofs.Common.{sym, ap, ◌∙◌, take, Ok}
use Rattle.calculus.specs.InTurn.{along_list}
use Rattle.calculus.proofs.LoopWalking.{start, not-refused, Handed, hands-out, fewer, takes-in, all-taken}
use Rattle.calculus.specs.Kind.{regular}
use Rattle.formulas.specs.Real.{real}
use Rattle.formulas.specs.Numbers.{surface_numbers}
use Rattle.float_carry.proofs.Carries.{terms}
use Rattle.float_carry.proofs.floats.Carried.along_lists.Goals as goal
use Rattle.float_carry.proofs.floats.Carried.along_lists.Goals.{In-Ok-Some}

-- the list that a step hands out
step : (c : In-Ok-Some) → Handed c.args.order c.args.len c.loop-parts.walk c.next.new.self (take c.args.len c.in-Ok-Some.parts)
step c = hands-out c.requires c.loop-parts.invariant.0 (sym c.next.ensures.0 ∙ c.in-Ok-Some.is ∙ ap Ok c.in-Ok-Some.field-0-is) c.next.ensures.1

pub loop-parts-init : goal.loop-parts-init
loop-parts-init c =
    let s = c.args in
    let begun = start s.order s.len c.requires.0 c.requires.1 c.requires.2 c.in-Ok.walk (sym c.try_new.ensures ∙ c.in-Ok.is) in
    (begun.0, ap (along_list real.plus s.start (terms (regular real) (surface_numbers s.self.now.entries.now) s.self.now.u.now s.self.now.v.now)) begun.1)

pub invariant_of-parts : goal.invariant_of-parts
invariant_of-parts c = let h = step (goal.at.invariant_of-parts c).In-Ok-Some in record { falling = h.falling; small = h.small; short = h.short }

pub loop-parts-smaller : goal.loop-parts-smaller
loop-parts-smaller c = fewer (step (goal.at.loop-parts-smaller c).In-Ok-Some)

pub loop-parts-preserved : goal.loop-parts-preserved
loop-parts-preserved c =
    let s = c.args in
    let h = step (goal.at.loop-parts-preserved c).In-Ok-Some in
    (h.walks, takes-in h real.plus (terms (regular real) (surface_numbers s.self.now.entries.now) s.self.now.u.now s.self.now.v.now) c.loop-parts.sum c.loop-parts.invariant.1 c.summand-sum.ensures)

pub returns-in_default-next : goal.returns-in_default-next
returns-in_default-next c =
    let s = c.args in
    all-taken c.requires c.loop-parts.invariant.0 real.plus (terms (regular real) (surface_numbers s.self.now.entries.now) s.self.now.u.now s.self.now.v.now) c.loop-parts.sum (λ p e. cc) c.loop-parts.invariant.1

pub returns-in_default-next-2 : goal.returns-in_default-next-2
returns-in_default-next-2 c =
    let s = c.args in
    all-taken c.requires c.loop-parts.invariant.0 real.plus (terms (regular real) (surface_numbers s.self.now.entries.now) s.self.now.u.now s.self.now.v.now) c.loop-parts.sum (λ p e. cc) c.loop-parts.invariant.1

pub returns-in_default : goal.returns-in_default
returns-in_default c =
    let s = c.args in
    absurd (not-refused s.order s.len c.requires.0 c.requires.1 c.requires.2 c.in_default.field-0 (sym c.try_new.ensures ∙ c.in_default.is))
