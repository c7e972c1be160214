use Rattle.std.proofs.Common.{sym, ◌∙◌, arith}
use Rattle.formulas.specs.Numbers.{surface_numbers}
use Rattle.formulas.proofs.Surfaces.{at_place, in_array}
use Rattle.vector_formulas.specs.Vector.{vector_surface_numbers}
use Rattle.vector_formulas.proofs.Vectors.{stored-put}
use Rattle.vector_formulas.proofs.VectorSurfaces.{surface_none, surface_long, surface_more, surface_row, surface_all}
use Rattle.vector_surface_formulas.proofs.SurfaceEntries.{surface_of, surface-formed}
use Rattle.vector_surface_formulas.proofs.entries.entries.Goals as goal

pub loop-i-init : goal.loop-i-init
loop-i-init c = (c.requires, surface_none (surface_of c.args.f (vector_surface_numbers c.args.a.now) (vector_surface_numbers c.args.b.now) (surface_numbers c.args.w.now)) c.requires)

pub loop-j-preserved : goal.loop-j-preserved
loop-j-preserved c =
    let l = c.loop-j.invariant in
    let k = at_place c.loop-i.i c.loop-j.j (omega arith) c.index.ensures in
    let long = surface_long (surface_of c.args.f (vector_surface_numbers c.args.a.now) (vector_surface_numbers c.args.b.now) (surface_numbers c.args.w.now)) l.0 l.1 in
    let inside = in_array c.loop-i.i c.loop-j.j (omega arith) c.index.ensures in
    let kept = c.store.ensures ∙ stored-put c.loop-j.r c.index.result c.entry-e.result (omega arith) in
    (l.0, surface_more (surface_of c.args.f (vector_surface_numbers c.args.a.now) (vector_surface_numbers c.args.b.now) (surface_numbers c.args.w.now)) l.0 l.1 (omega arith) (surface-formed c.args.f (vector_surface_numbers c.args.a.now) (vector_surface_numbers c.args.b.now) (surface_numbers c.args.w.now) l.0 l.1 (omega arith) ∙ sym c.entry-e.ensures) k kept)

pub loop-i-preserved : goal.loop-i-preserved
loop-i-preserved c =
    (c.loop-j.invariant.0, surface_row (surface_of c.args.f (vector_surface_numbers c.args.a.now) (vector_surface_numbers c.args.b.now) (surface_numbers c.args.w.now)) c.loop-j.invariant.0 c.loop-j.invariant.1 (omega arith))

pub returns : goal.returns
returns c = surface_all (surface_of c.args.f (vector_surface_numbers c.args.a.now) (vector_surface_numbers c.args.b.now) (surface_numbers c.args.w.now)) c.loop-i.invariant.0 c.loop-i.invariant.1 (omega arith)
