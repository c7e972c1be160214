-- A surface's entries are written. The invariants: those passed are, and l is how many they are. Assumes nothing.
use Rattle.std.proofs.Common.{◌*◌}
use Rattle.calculus.specs.Order.{surface_entries}
use Rattle.calculus.proofs.LoopLeft.{surface_left}
use Rattle.calculus.proofs.LoopWriting.{Writing}
use Rattle.vector_formulas.specs.Vector.{flat, vector_surface_numbers}
use Rattle.vector_derivatives.proofs.surface.written.Given as goal

abbrev pub invariant-loop-i : goal.invariant-loop-i
invariant-loop-i at = Writing (flat (surface_entries (vector_surface_numbers at.a.entries) at.n)) at.out (flat (surface_left (vector_surface_numbers at.a.entries) at.n at.i 0)) (3 * at.l)

abbrev pub invariant-loop-j : goal.invariant-loop-j
invariant-loop-j at = Writing (flat (surface_entries (vector_surface_numbers at.a.entries) at.n)) at.out (flat (surface_left (vector_surface_numbers at.a.entries) at.n at.i at.j)) (3 * at.l)
