-- A surface's list is read. The invariants: the entries passed stand in the array, and l is where the list has the next. Assumes nothing.
use Rattle.std.proofs.Common.{◌≡◌, ◌≤◌}
use Rattle.calculus.specs.Order.{list_place}
use Rattle.vector_formulas.specs.Vector.{vector_numbers}
use Rattle.vector_formulas.proofs.VectorSurfaces.{SurfaceFilled}
use Rattle.vector_derivatives.proofs.surface.array.Given as goal

abbrev pub invariant-loop-i : goal.invariant-loop-i
invariant-loop-i at = ((b : at.n ≤ 20) × SurfaceFilled (λ x y. vector_numbers at.list (list_place at.n x y)) b at.i 0 at.entries) × (at.l ≡ list_place at.n at.i 0)

abbrev pub invariant-loop-j : goal.invariant-loop-j
invariant-loop-j at = ((b : at.n ≤ 20) × SurfaceFilled (λ x y. vector_numbers at.list (list_place at.n x y)) b at.i at.j at.entries) × (at.l ≡ list_place at.n at.i at.j)
