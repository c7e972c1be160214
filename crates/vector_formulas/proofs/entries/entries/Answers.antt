use Rattle.vector_formulas.proofs.Vectors.{vectors-none, vectors-long, vectors-stored, vectors-all}
use Rattle.vector_formulas.proofs.VectorCurves.{vectors_of, vectors-formed}
use Rattle.vector_formulas.specs.Vector.{vector_numbers}
use Rattle.formulas.specs.Numbers.{curve_numbers}
use Rattle.std.proofs.Common.{sym, ◌∙◌, arith}
use Rattle.vector_formulas.proofs.entries.entries.Goals as goal

pub loop-m-init : goal.loop-m-init
loop-m-init c =
    let s = c.args in
    vectors-none (vectors_of s.f (vector_numbers s.a.now) (vector_numbers s.b.now) (curve_numbers s.w.now))

pub slice_bounds-store-end : goal.slice_bounds-store-end
slice_bounds-store-end c =
    let s = c.args in
    vectors-long (vectors_of s.f (vector_numbers s.a.now) (vector_numbers s.b.now) (curve_numbers s.w.now)) c.loop-m.invariant

pub store-requires : goal.store-requires
store-requires c =
    let s = c.args in
    omega (arith, vectors-long (vectors_of s.f (vector_numbers s.a.now) (vector_numbers s.b.now) (curve_numbers s.w.now)) c.loop-m.invariant)

pub loop-m-preserved : goal.loop-m-preserved
loop-m-preserved c =
    let l = c.loop-m in let s = c.args in
    vectors-stored (vectors_of s.f (vector_numbers s.a.now) (vector_numbers s.b.now) (curve_numbers s.w.now)) c.entry-e.result l.invariant (omega arith) (vectors-formed s.f (vector_numbers s.a.now) (vector_numbers s.b.now) (curve_numbers s.w.now) l.invariant (omega arith) ∙ sym c.entry-e.ensures) c.store.ensures

pub returns : goal.returns
returns c =
    let s = c.args in
    vectors-all (vectors_of s.f (vector_numbers s.a.now) (vector_numbers s.b.now) (curve_numbers s.w.now)) s.n c.loop-m.invariant (omega arith)
