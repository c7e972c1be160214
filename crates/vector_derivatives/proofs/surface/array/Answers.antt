use Rattle.std.proofs.Common.{List, Float, ℕ, refl, sym, ap, ◌∙◌, arith}
use Rattle.ieee_vectors.specs.declared.Vector3.{Vector3}
use Rattle.calculus.specs.Order.{row_start, list_place}
use Rattle.calculus.proofs.Graded.{room-231}
use Rattle.calculus.proofs.LoopPlaces.{row-turn, list-place}
use Rattle.formulas.proofs.Surfaces.{at_place, in_array}
use Rattle.vector_formulas.specs.Vector.{vector_numbers}
use Rattle.vector_formulas.proofs.Vectors.{stored-put}
use Rattle.vector_formulas.proofs.VectorSurfaces.{surface_none, surface_long, surface_more, surface_row, surface_all}
use Rattle.vector_derivatives.proofs.surface.array.Goals as goal

-- the entries of a list by their orders
abbrev of : List Float → ℕ → ℕ → ℕ → Vector3
of l n x y = vector_numbers l (list_place n x y)

pub loop-i-init : goal.loop-i-init
unfolding row_start
loop-i-init c = ((c.requires, surface_none (of c.args.list.now c.args.n) c.requires), refl)

pub slice_bounds-store-end : goal.slice_bounds-store-end
slice_bounds-store-end c = let l = c.loop-j.invariant in surface_long (of c.args.list.now c.args.n) l.0.0 l.0.1

pub overflow_add-l : goal.overflow_add-l
overflow_add-l c = omega (arith, list-place c.args.n c.loop-i.i c.loop-j.j (omega arith), c.loop-j.invariant.1, room-231 c.args.n c.requires)

pub loop-j-preserved : goal.loop-j-preserved
loop-j-preserved c =
    let l = c.loop-j.invariant in
    let f = of c.args.list.now c.args.n in
    let held = ap (vector_numbers c.args.list.now) (sym l.1) ∙ sym c.vector_at-v.ensures in
    let put = c.store.ensures ∙ stored-put c.loop-j.entries c.index.result c.vector_at-v.result (omega (arith, surface_long f l.0.0 l.0.1, in_array c.loop-i.i c.loop-j.j (omega arith) c.index.ensures)) in
    ((l.0.0, surface_more f l.0.0 l.0.1 (omega arith) held (at_place c.loop-i.i c.loop-j.j (omega arith) c.index.ensures) put), omega (arith, l.1))

pub loop-i-preserved : goal.loop-i-preserved
loop-i-preserved c =
    let l = c.loop-j.invariant in
    ((l.0.0, surface_row (of c.args.list.now c.args.n) l.0.0 l.0.1 (omega arith)), omega (arith, row-turn c.args.n c.loop-i.i, l.1))

pub returns : goal.returns
returns c =
    let s = c.args in
    let l = c.loop-i.invariant in
    surface_all (of s.list.now s.n) l.0.0 l.0.1 (omega arith)
