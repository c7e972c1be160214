-- `vector_formulas::finite_surface` meets its contract. Assumes nothing.
use Rattle.std.proofs.Common.{◌≡◌, ℕ, suc, min, ap, ◌∙◌, arith}
use Rattle.calculus.specs.Graded.{triangle}
use Rattle.calculus.proofs.Graded.{room-231}
use Rattle.formulas.proofs.Finite.{counted}
use Rattle.vector_formulas.specs.Vector.{vector_numbers, all_vectors_finite}
use Rattle.vector_formulas.proofs.Vectors.{surface-finite}
use Rattle.vector_formulas.proofs.finite_surface.Goals as goal

pub all_finite-requires : goal.all_finite-requires
all_finite-requires c = omega (arith, counted c.min.result (omega arith) c.surface_count.ensures, room-231 c.min.result (omega arith))

pub returns : goal.returns
returns c =
    let s = c.args in
    let k : c.surface_count.result ≡ triangle (suc (min s.n 20)) =
    counted c.min.result (omega arith) c.surface_count.ensures ∙ ap (λ (x : ℕ). triangle (suc x)) c.min.ensures in
    c.all_finite.ensures ∙ ap (all_vectors_finite (vector_numbers s.a.now)) k ∙ surface-finite s.a.now (min s.n 20)
