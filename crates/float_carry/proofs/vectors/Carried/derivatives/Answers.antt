use Rattle.std.proofs.Common.{sym, ap, ◌∙◌, arith}
use Rattle.vector_formulas.specs.Vector.{vector_array}
use Rattle.vector_formulas.proofs.Vectors.{vectors-none, vectors-long, vectors-stored, vectors-all, stored-put}
use Rattle.float_carry.proofs.Carries.{carried_vectors}
use Rattle.float_carry.proofs.vectors.Carried.derivatives.Goals as goal

pub loop-m-init : goal.loop-m-init
loop-m-init c = vectors-none (carried_vectors c.args.self.now.entries.now c.args.self.now.u.now c.args.self.now.v.now)

pub loop-m-preserved : goal.loop-m-preserved
loop-m-preserved c =
    let s = c.args in
    let f = carried_vectors s.self.now.entries.now s.self.now.u.now s.self.now.v.now in
    let long = vectors-long f c.loop-m.invariant in
    vectors-stored f c.entry.result c.loop-m.invariant (omega arith) (sym c.entry.ensures)
    (c.store.ensures ∙ stored-put c.loop-m.r c.loop-m.m c.entry.result (omega (arith, long)))

pub returns : goal.returns
returns c =
    let s = c.args in
    let f = carried_vectors s.self.now.entries.now s.self.now.u.now s.self.now.v.now in
    vectors-all f c.min-n.result c.loop-m.invariant (omega arith) ∙ ap (vector_array f) c.min-n.ensures
