-- `formulas::surface_entries::entries` meets its contract. The invariants: the entries passed stand in the array. Assumes nothing.
use Rattle.std.proofs.Common.{◌≤◌}
use Rattle.formulas.proofs.Surfaces.{SurfaceFilled, surface_of}
use Rattle.formulas.specs.Numbers.{surface_numbers}
use Rattle.formulas.proofs.surface_entries.entries.Given as goal

abbrev pub invariant-loop-i : goal.invariant-loop-i
invariant-loop-i at = (l : at.n ≤ 20) × SurfaceFilled (surface_of at.f (surface_numbers at.a) (surface_numbers at.b)) l at.i 0 at.r

abbrev pub invariant-loop-j : goal.invariant-loop-j
invariant-loop-j at = (l : at.n ≤ 20) × SurfaceFilled (surface_of at.f (surface_numbers at.a) (surface_numbers at.b)) l at.i at.j at.r
