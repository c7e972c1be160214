-- `vector_formulas::shift::shifted` meets its contract. The invariants: the entries passed stand in the array. Assumes nothing.
use Rattle.std.proofs.Common.{◌+◌, ◌≤◌}
use Rattle.vector_formulas.proofs.VectorSurfaces.{SurfaceFilled}
use Rattle.vector_formulas.specs.Vector.{vector_surface_numbers}
use Rattle.vector_formulas.proofs.shift.shifted.Given as goal

abbrev pub invariant-loop-i : goal.invariant-loop-i
invariant-loop-i at = (l : at.n ≤ 20) × SurfaceFilled (λ x y. vector_surface_numbers at.a (x + at.p) (y + at.q)) l at.i 0 at.r

abbrev pub invariant-loop-j : goal.invariant-loop-j
invariant-loop-j at = (l : at.n ≤ 20) × SurfaceFilled (λ x y. vector_surface_numbers at.a (x + at.p) (y + at.q)) l at.i at.j at.r
