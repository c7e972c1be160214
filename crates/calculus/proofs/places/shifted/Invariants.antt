-- The invariants: the entries passed stand in the array. Assumes nothing.
use Rattle.std.proofs.Common.{◌+◌, ◌≤◌, get_or}
use Rattle.calculus.specs.Graded.{index}
use Rattle.calculus.proofs.LoopSurfaceFilled.{SurfaceFilled}
use Rattle.calculus.proofs.places.shifted.Given as goal

abbrev pub invariant-loop-j : goal.invariant-loop-j
invariant-loop-j g at = (b : at.n ≤ 20) × SurfaceFilled at.zero (λ i j. get_or at.a (index (i + at.p) (j + at.q)) at.zero) b at.i at.j at.r

abbrev pub invariant-loop-i : goal.invariant-loop-i
invariant-loop-i g at = (b : at.n ≤ 20) × SurfaceFilled at.zero (λ i j. get_or at.a (index (i + at.p) (j + at.q)) at.zero) b at.i 0 at.r
