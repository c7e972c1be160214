use Rattle.std.proofs.Common.{◌+◌, ◌≤◌, sym, ◌∙◌, arith}
use Rattle.calculus.proofs.LoopCut.{uncut-entry}
use Rattle.formulas.proofs.Surfaces.{at_place, in_array}
use Rattle.vector_formulas.proofs.VectorSurfaces.{surface_none, surface_long, surface_more, surface_row, surface_all}
use Rattle.vector_formulas.specs.Vector.{vector_surface_numbers}
use Rattle.vector_formulas.proofs.shift.shifted.Goals as goal

pub loop-i-init : goal.loop-i-init
loop-i-init c = let b : c.args.n ≤ 20 = omega arith in (b, surface_none (λ x y. vector_surface_numbers c.args.a.now (x + c.args.p) (y + c.args.q)) b)

pub slice_bounds-store-end : goal.slice_bounds-store-end
slice_bounds-store-end c = surface_long (λ x y. vector_surface_numbers c.args.a.now (x + c.args.p) (y + c.args.q)) c.loop-j.invariant.0 c.loop-j.invariant.1

pub store-requires : goal.store-requires
store-requires c =
    let long = surface_long (λ x y. vector_surface_numbers c.args.a.now (x + c.args.p) (y + c.args.q)) c.loop-j.invariant.0 c.loop-j.invariant.1 in
    omega (arith, long, in_array c.loop-i.i c.loop-j.j (omega arith) c.index.ensures)

pub loop-j-preserved : goal.loop-j-preserved
loop-j-preserved c =
    let l = c.loop-j.invariant in
    let e = sym (c.surface_at.ensures ∙ uncut-entry (vector_surface_numbers c.args.a.now) (omega arith)) in
    (l.0, surface_more (λ x y. vector_surface_numbers c.args.a.now (x + c.args.p) (y + c.args.q)) l.0 l.1 (omega arith) e (at_place c.loop-i.i c.loop-j.j (omega arith) c.index.ensures) c.store.ensures)

pub loop-i-preserved : goal.loop-i-preserved
loop-i-preserved c =
    (c.loop-j.invariant.0, surface_row (λ x y. vector_surface_numbers c.args.a.now (x + c.args.p) (y + c.args.q)) c.loop-j.invariant.0 c.loop-j.invariant.1 (omega arith))

pub returns : goal.returns
returns c = surface_all (λ x y. vector_surface_numbers c.args.a.now (x + c.args.p) (y + c.args.q)) c.loop-i.invariant.0 c.loop-i.invariant.1 (omega arith)
