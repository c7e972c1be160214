-- `vector_surface_formulas::norms::norms` meets its contract. The invariants: the entries passed stand in the array. Assumes nothing.
use Rattle.std.proofs.Common.{◌≤◌}
use Rattle.formulas.proofs.Surfaces.{SurfaceFilled}
use Rattle.vector_formulas.specs.Vector.{vector_surface_numbers}
use Rattle.vector_surface_formulas.specs.Formulas.{vector_surface_norm}
use Rattle.vector_surface_formulas.proofs.norms.norms.Given as goal

abbrev pub invariant-loop-i : goal.invariant-loop-i
invariant-loop-i at = (l : at.n ≤ 20) × SurfaceFilled (vector_surface_norm (vector_surface_numbers at.s)) l at.i 0 at.r

abbrev pub invariant-loop-j : goal.invariant-loop-j
invariant-loop-j at = (l : at.n ≤ 20) × SurfaceFilled (vector_surface_norm (vector_surface_numbers at.s)) l at.i at.j at.r
