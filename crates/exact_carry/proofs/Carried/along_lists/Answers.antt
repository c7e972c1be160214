-- `exact_carry::Carried::along_lists` meets its contract. Assumes nothing.
use Rattle.std.proofs.Common.{rules, ◌≡◌, ◌+ℤ◌, ℤ, Ok, sym, ap, ◌∙◌, take, FitsSigned, w64, to_z}
use Rattle.std.proofs.Math.Facts.{to_z-of_z}
use Rattle.partitions.specs.Parts.{lists}
use Rattle.partitions.specs.Walk.{remaining}
use Rattle.calculus.specs.InTurn.{along_list}
use Rattle.calculus.proofs.LoopWalking.{start, not-refused, Handed, hands-out, fewer, takes-in, all-taken}
use Rattle.whole.specs.Checked.{Whole, formed}
use Rattle.whole.proofs.Range.{tz}
use Rattle.exact_formulas.specs.Kinds.{checked}
use Rattle.exact_formulas.proofs.Terms.{handed}
use Rattle.exact_carry.proofs.Masks.{terms, along-refused, through-refused}
use Rattle.exact_carry.proofs.Carried.along_lists.Goals as goal
use Rattle.exact_carry.proofs.Carried.along_lists.Goals.{In-Ok-Some}

-- the list that a step hands out
step : (c : In-Ok-Some) → Handed c.args.order c.args.len c.loop-parts.walk c.next.new.self (take c.args.len c.in-Ok-Some.parts)
step c = hands-out c.requires c.loop-parts.invariant.0 (sym c.next.ensures.0 ∙ c.in-Ok-Some.is ∙ ap Ok c.in-Ok-Some.field-0-is) c.next.ensures.1

pub returns-in_err-walk : goal.returns-in_err-walk
returns-in_err-walk c =
    let s = c.args in
    absurd (not-refused s.order s.len c.requires.0 c.requires.1 c.requires.2 c.in_err-walk.field-0.0 (sym c.in_err-walk.ensures))

pub loop-parts-init : goal.loop-parts-init
loop-parts-init c =
    let s = c.args in
    let begun = start s.order s.len c.requires.0 c.requires.1 c.requires.2 c.in_ok-walk.walk (sym c.in_ok-walk.ensures) in
    (begun.0, ap (along_list checked.plus (Ok (tz s.start)) (terms s.self.now.entries.now s.self.now.u.now s.self.now.v.now)) begun.1)

pub invariant_of-parts : goal.invariant_of-parts
invariant_of-parts c = let h = step (goal.at.invariant_of-parts c).In-Ok-Some in record { falling = h.falling; small = h.small; short = h.short }

pub returns-in_err-term : goal.returns-in_err-term
returns-in_err-term c =
    let s = c.args in
    let t = terms s.self.now.entries.now s.self.now.u.now s.self.now.v.now in
    handed c.from_residual-in_err-term.ensures
    ∙ along-refused (λ x y. formed (x +ℤ y)) t c.in_err-term.field-0.0 (remaining c.next.new.self)
    ∙ takes-in (step (goal.at.returns-in_err-term c).In-Ok-Some) checked.plus t (Ok (to_z w64 c.loop-parts.sum-bits)) c.loop-parts.invariant.1 c.in_err-term.ensures
    ∙ ap (λ (z : ℤ). along_list checked.plus (Ok z) t (lists s.order s.len)) (to_z-of_z c.ranges.start)

pub returns-in_err-sum : goal.returns-in_err-sum
returns-in_err-sum c =
    let s = c.args in
    let l = c.loop-parts in
    let t = terms s.self.now.entries.now s.self.now.u.now s.self.now.v.now in
    let fy : FitsSigned w64 c.in_ok-term.term = search rules in
    handed c.from_residual-in_err-sum.ensures
    ∙ through-refused (λ x y. formed (x +ℤ y)) t (remaining c.next.new.self) (c.in_err-sum.ensures ∙ ap (λ (z : ℤ). formed ((to_z w64 l.sum-bits) +ℤ z)) (to_z-of_z fy))
    ∙ takes-in (step (goal.at.returns-in_err-sum c).In-Ok-Some) checked.plus t (Ok (to_z w64 l.sum-bits)) l.invariant.1 c.in_ok-term.ensures
    ∙ ap (λ (z : ℤ). along_list checked.plus (Ok z) t (lists s.order s.len)) (to_z-of_z c.ranges.start)

pub loop-parts-smaller : goal.loop-parts-smaller
loop-parts-smaller c = fewer (step (goal.at.loop-parts-smaller c).In-Ok-Some)

pub loop-parts-preserved : goal.loop-parts-preserved
loop-parts-preserved c =
    let s = c.args in
    let l = c.loop-parts in
    let t = terms s.self.now.entries.now s.self.now.u.now s.self.now.v.now in
    let h = step (goal.at.loop-parts-preserved c).In-Ok-Some in
    let fy : FitsSigned w64 c.in_ok-term.term = search rules in
    let fz : FitsSigned w64 c.in_ok-sum.sum = search rules in
    let e : Ok (tz c.in_ok-sum.sum) ≡ checked.plus (Ok (to_z w64 l.sum-bits)) (Ok c.in_ok-term.term) = ap Ok (to_z-of_z fz) ∙ c.in_ok-sum.ensures ∙ ap (λ (z : ℤ). formed ((to_z w64 l.sum-bits) +ℤ z)) (to_z-of_z fy) in
    (h.walks, ap (λ (w : Whole). along_list checked.plus w t (remaining c.next.new.self)) e ∙ takes-in h checked.plus t (Ok (to_z w64 l.sum-bits)) l.invariant.1 c.in_ok-term.ensures)

pub returns-in_default : goal.returns-in_default
returns-in_default c =
    let s = c.args in
    let l = c.loop-parts in
    let t = terms s.self.now.entries.now s.self.now.u.now s.self.now.v.now in
    all-taken c.requires l.invariant.0 checked.plus t (Ok (to_z w64 l.sum-bits)) (λ p e. cc) l.invariant.1 ∙ ap (λ (z : ℤ). along_list checked.plus (Ok z) t (lists s.order s.len)) (to_z-of_z c.ranges.start)

pub returns-in_default-2 : goal.returns-in_default-2
returns-in_default-2 c =
    let s = c.args in
    let l = c.loop-parts in
    let t = terms s.self.now.entries.now s.self.now.u.now s.self.now.v.now in
    all-taken c.requires l.invariant.0 checked.plus t (Ok (to_z w64 l.sum-bits)) (λ p e. cc) l.invariant.1 ∙ ap (λ (z : ℤ). along_list checked.plus (Ok z) t (lists s.order s.len)) (to_z-of_z c.ranges.start)
