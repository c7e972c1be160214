-- `vector_surface_formulas::entries::dots` meets its contract. The invariants: the entries passed stand in the array. Assumes nothing.
use Rattle.std.proofs.Common.{◌≤◌}
use Rattle.formulas.proofs.Surfaces.{SurfaceFilled}
use Rattle.calculus.specs.Surface.{product_by}
use Rattle.vector_formulas.specs.Vector.{vector_surface_numbers}
use Rattle.formulas.specs.Real.{real}
use Rattle.ieee_vectors.specs.Vectors.{dot}
use Rattle.calculus.specs.Kind.{regular}
use Rattle.vector_surface_formulas.proofs.entries.dots.Given as goal

abbrev pub invariant-loop-i : goal.invariant-loop-i
invariant-loop-i at = (l : at.n ≤ 20) × SurfaceFilled (product_by (regular real) dot (vector_surface_numbers at.a) (vector_surface_numbers at.b)) l at.i 0 at.r

abbrev pub invariant-loop-j : goal.invariant-loop-j
invariant-loop-j at = (l : at.n ≤ 20) × SurfaceFilled (product_by (regular real) dot (vector_surface_numbers at.a) (vector_surface_numbers at.b)) l at.i at.j at.r
