-- `vector_surface_formulas::entries::entries` meets its contract. The invariants: the entries passed stand in the array. Assumes nothing.
use Rattle.std.proofs.Common.{◌≤◌}
use Rattle.vector_formulas.proofs.VectorSurfaces.{SurfaceFilled}
use Rattle.vector_surface_formulas.proofs.SurfaceEntries.{surface_of}
use Rattle.vector_formulas.specs.Vector.{vector_surface_numbers}
use Rattle.formulas.specs.Numbers.{surface_numbers}
use Rattle.vector_surface_formulas.proofs.entries.entries.Given as goal

abbrev pub invariant-loop-i : goal.invariant-loop-i
invariant-loop-i at = (l : at.n ≤ 20) × SurfaceFilled (surface_of at.f (vector_surface_numbers at.a) (vector_surface_numbers at.b) (surface_numbers at.w)) l at.i 0 at.r

abbrev pub invariant-loop-j : goal.invariant-loop-j
invariant-loop-j at = (l : at.n ≤ 20) × SurfaceFilled (surface_of at.f (vector_surface_numbers at.a) (vector_surface_numbers at.b) (surface_numbers at.w)) l at.i at.j at.r
