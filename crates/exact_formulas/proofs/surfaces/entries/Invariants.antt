-- `exact_formulas::surfaces::entries` meets its contract. The invariant: the entries passed stand in the array. Assumes nothing.
use Rattle.exact_formulas.specs.Entries.{surface_values}
use Rattle.exact_formulas.proofs.Progress.{SurfaceProgress}
use Rattle.exact_formulas.proofs.Earlier.{surface_rising}
use Rattle.exact_formulas.proofs.surfaces.entries.Given as goal

abbrev pub invariant-loop-i : goal.invariant-loop-i
invariant-loop-i l = SurfaceProgress (surface_rising l.op (surface_values l.a) (surface_values l.b)) l.n l.i 0 l.r

abbrev pub invariant-loop-j : goal.invariant-loop-j
invariant-loop-j l = SurfaceProgress (surface_rising l.op (surface_values l.a) (surface_values l.b)) l.n l.i l.j l.r
