use Rattle.std.proofs.Common.{sym, arith}
use Rattle.ieee_vectors.specs.Vectors.{dot}
use Rattle.calculus.specs.Kind.{regular}
use Rattle.calculus.specs.Surface.{product_by}
use Rattle.formulas.specs.Real.{real}
use Rattle.formulas.proofs.Surfaces.{at_place, in_array, surface_none, surface_more, surface_row, surface_all}
use Rattle.vector_formulas.specs.Vector.{vector_surface_numbers}
use Rattle.vector_surface_formulas.proofs.entries.dots.Goals as goal

pub loop-i-init : goal.loop-i-init
loop-i-init c = (c.requires, surface_none (product_by (regular real) dot (vector_surface_numbers c.args.a.now) (vector_surface_numbers c.args.b.now)) c.requires)

pub offset_bounds-r-index : goal.offset_bounds-r-index
offset_bounds-r-index c = omega (arith, in_array c.loop-i.i c.loop-j.j (omega arith) c.index.ensures)

pub bounds-r-index : goal.bounds-r-index
bounds-r-index c = in_array c.loop-i.i c.loop-j.j (omega arith) c.index.ensures

pub loop-j-preserved : goal.loop-j-preserved
loop-j-preserved c =
    let l = c.loop-j.invariant in
    (l.0, surface_more (product_by (regular real) dot (vector_surface_numbers c.args.a.now) (vector_surface_numbers c.args.b.now)) l.0 l.1 (omega arith) (sym c.dot_entry.ensures) (at_place c.loop-i.i c.loop-j.j (omega arith) c.index.ensures))

pub loop-i-preserved : goal.loop-i-preserved
loop-i-preserved c =
    (c.loop-j.invariant.0, surface_row (product_by (regular real) dot (vector_surface_numbers c.args.a.now) (vector_surface_numbers c.args.b.now)) c.loop-j.invariant.0 c.loop-j.invariant.1 (omega arith))

pub returns : goal.returns
returns c = surface_all (product_by (regular real) dot (vector_surface_numbers c.args.a.now) (vector_surface_numbers c.args.b.now)) c.loop-i.invariant.0 c.loop-i.invariant.1 (omega arith)
