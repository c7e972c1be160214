use Rattle.std.proofs.Common.{get_or, sym, ap₂, add-one, arith}
use Rattle.std.specs.Float.{nan}
use Rattle.calculus.specs.Kind.{regular}
use Rattle.calculus.proofs.LoopTerms.{one_more}
use Rattle.calculus.proofs.LoopBits.{entry_at, mask-below, few-ones}
use Rattle.ieee_vectors.specs.Vectors.{positive_zero}
use Rattle.formulas.specs.Real.{real}
use Rattle.formulas.specs.Numbers.{surface_numbers}
use Rattle.float_carry.proofs.Carries.{term_of}
use Rattle.float_carry.proofs.floats.Carried.tensor.Goals as goal

pub overflow_sub-e : goal.overflow_sub-e
overflow_sub-e c =
    let p = c.args.parts.now in
    omega (arith, few-ones p.list.now p.short c.loop-mask-test.true)

pub loop-mask-preserved : goal.loop-mask-preserved
loop-mask-preserved c =
    let s = c.args.self.now in
    let l = c.args.parts.now.list.now in
    let mask = c.loop-mask.mask in
    let below = mask-below l c.args.parts.now.short c.loop-mask-test.true in
    one_more real.plus positive_zero (term_of (regular real) (surface_numbers s.entries.now) s.u.now s.v.now l) c.loop-mask.invariant
    (ap₂ real.times (sym (entry_at (λ k. get_or s.entries.now k nan) l mask below)) c.factors.ensures)
    (add-one mask)
