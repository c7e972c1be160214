-- The invariant: the first m entries of u and of v stand in their arrays. Assumes nothing.
use Rattle.std.proofs.Common.{◌≡◌, ◌+◌, ◌*◌, get_or}
use Rattle.calculus.proofs.LoopFilling.{CurveStored}
use Rattle.calculus.proofs.places.pairs_read.Given as goal

abbrev pub invariant-loop-m : goal.invariant-loop-m
invariant-loop-m g at =
    CurveStored 21 at.zero at.zero (λ k x. x ≡ get_or at.list (2 * k) at.zero) at.m at.u × CurveStored 21 at.zero at.zero (λ k x. x ≡ get_or at.list (2 * k + 1) at.zero) at.m at.v
