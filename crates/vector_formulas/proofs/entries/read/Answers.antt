use Rattle.std.proofs.Common.{sym, arith}
use Rattle.vector_formulas.proofs.Vectors.{vectors-none, vectors-long, vectors-stored, vectors-all}
use Rattle.vector_formulas.specs.Vector.{vector_numbers}
use Rattle.vector_formulas.proofs.entries.read.Goals as goal

pub loop-m-init : goal.loop-m-init
loop-m-init c = vectors-none (vector_numbers c.args.list.now)

pub slice_bounds-store-end : goal.slice_bounds-store-end
slice_bounds-store-end c = vectors-long (vector_numbers c.args.list.now) c.loop-m.invariant

pub store-requires : goal.store-requires
store-requires c = omega (arith, vectors-long (vector_numbers c.args.list.now) c.loop-m.invariant)

pub loop-m-preserved : goal.loop-m-preserved
loop-m-preserved c = vectors-stored (vector_numbers c.args.list.now) _ c.loop-m.invariant (omega arith) (sym c.vector_at.ensures) c.store.ensures

pub returns : goal.returns
returns c = vectors-all (vector_numbers c.args.list.now) c.args.n c.loop-m.invariant (omega arith)
