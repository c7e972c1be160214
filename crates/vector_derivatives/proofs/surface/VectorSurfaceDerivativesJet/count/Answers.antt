-- A surface's count meets its contract: what is counted fits. Assumes nothing.
use Rattle.std.proofs.Common.{◌≤◌, arith}
use Rattle.calculus.proofs.Graded.{room-231}
use Rattle.formulas.proofs.Finite.{counted}
use Rattle.vector_derivatives.proofs.surface.VectorSurfaceDerivativesJet.count.Goals as goal

pub overflow_mul-result : goal.overflow_mul-result
overflow_mul-result c =
    let b : c.min.result ≤ 20 = omega (arith, c.min.ensures) in
    omega (arith, counted c.min.result b c.surface_count.ensures, room-231 c.min.result b)
