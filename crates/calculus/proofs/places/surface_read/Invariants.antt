-- The invariants: the entries passed stand in the array, and l is the place of the next in the list. Assumes nothing.
use Rattle.std.proofs.Common.{◌≡◌, ◌≤◌, get_or}
use Rattle.calculus.specs.Order.{list_place}
use Rattle.calculus.proofs.LoopSurfaceFilled.{SurfaceFilled}
use Rattle.calculus.proofs.places.surface_read.Given as goal

abbrev pub invariant-loop-j : goal.invariant-loop-j
invariant-loop-j g at =
    (b : at.n ≤ 20) × SurfaceFilled at.zero (λ i j. get_or at.list (list_place at.n i j) at.zero) b at.i at.j at.r × (at.l ≡ list_place at.n at.i at.j)

abbrev pub invariant-loop-i : goal.invariant-loop-i
invariant-loop-i g at =
    (b : at.n ≤ 20) × SurfaceFilled at.zero (λ i j. get_or at.list (list_place at.n i j) at.zero) b at.i 0 at.r × (at.l ≡ list_place at.n at.i 0)
