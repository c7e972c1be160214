use Rattle.std.proofs.Common.{sym, ◌∙◌, arith}
use Rattle.calculus.proofs.Graded.{index-231}
use Rattle.formulas.proofs.Surfaces.{surface_none, surface_more, surface_row, surface_all, surface_of, surface-formed}
use Rattle.formulas.specs.Numbers.{surface_numbers}
use Rattle.formulas.proofs.surface_entries.entries.Goals as goal

pub loop-i-init : goal.loop-i-init
loop-i-init c = (c.requires, surface_none (surface_of c.args.f (surface_numbers c.args.a.now) (surface_numbers c.args.b.now)) c.requires)

pub offset_bounds-r-index : goal.offset_bounds-r-index
offset_bounds-r-index c = omega (arith, c.index.ensures, index-231 c.loop-i.i c.loop-j.j (omega arith))

pub bounds-r-index : goal.bounds-r-index
bounds-r-index c = omega (arith, c.index.ensures, index-231 c.loop-i.i c.loop-j.j (omega arith))

pub loop-j-preserved : goal.loop-j-preserved
loop-j-preserved c =
    let l = c.loop-j.invariant in
    let x = surface_numbers c.args.a.now in
    let y = surface_numbers c.args.b.now in
    (l.0, surface_more (surface_of c.args.f x y) l.0 l.1 (omega arith) (surface-formed c.args.f x y l.0 l.1 (omega arith) ∙ sym c.entry.ensures) c.index.ensures)

pub loop-i-preserved : goal.loop-i-preserved
loop-i-preserved c = (c.loop-j.invariant.0, surface_row (surface_of c.args.f (surface_numbers c.args.a.now) (surface_numbers c.args.b.now)) c.loop-j.invariant.0 c.loop-j.invariant.1 (omega arith))

pub returns : goal.returns
returns c = surface_all (surface_of c.args.f (surface_numbers c.args.a.now) (surface_numbers c.args.b.now)) c.loop-i.invariant.0 c.loop-i.invariant.1 (omega arith)
