use Rattle.std.proofs.Common.{sym, ap₂, ◌∙◌, add-one, arith}
use Rattle.calculus.proofs.LoopTerms.{one_more}
use Rattle.calculus.proofs.LoopBits.{entry_at, mask-below, few-ones}
use Rattle.ieee_vectors.specs.Vectors.{multiple}
use Rattle.vector_formulas.specs.Vector.{origin, vectors, vector_numbers, vector_surface_numbers}
use Rattle.float_carry.proofs.Carries.{term_of}
use Rattle.float_carry.proofs.vectors.Carried.tensor.Goals as goal

pub overflow_sub-k : goal.overflow_sub-k
overflow_sub-k c =
    let p = c.args.parts.now in
    omega (arith, few-ones p.list.now p.short c.loop-mask-test.true)

pub loop-mask-preserved : goal.loop-mask-preserved
loop-mask-preserved c =
    let s = c.args.self.now in
    let l = c.args.parts.now.list.now in
    let mask = c.loop-mask.mask in
    let below = mask-below l c.args.parts.now.short c.loop-mask-test.true in
    c.add-sum.ensures
    ∙ one_more vectors.plus origin (term_of vectors (vector_surface_numbers s.entries.now) s.u.now s.v.now l) c.loop-mask.invariant
    (c.mul.ensures ∙ ap₂ multiple (c.vector_at-e.ensures ∙ sym (entry_at (vector_numbers s.entries.now) l mask below)) c.factors-product.ensures)
    (add-one mask)
