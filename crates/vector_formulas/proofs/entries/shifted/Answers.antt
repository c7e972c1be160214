-- `vector_formulas::entries::shifted` meets its contract: what is copied are the entries from the second on. Assumes nothing.
use Rattle.std.proofs.Common.{◌≡◌, ◌+◌, ◌-◌, ◌*◌, take, drop, length, ◌∙◌, arith, length-drop}
use Rattle.std.proofs.lemmas.List.{length-take-le}
use Rattle.calculus.specs.Curve.{derivative}
use Rattle.vector_formulas.specs.Vector.{vector_numbers}
use Rattle.vector_formulas.proofs.Vectors.{vectors_copied, vector-taken, vector-dropped}
use Rattle.vector_formulas.proofs.entries.shifted.Goals as goal

pub returns : goal.returns
returns c =
    let s = c.args in
    let m = 3 * s.n + 6 - 3 in
    let part : c.copy_from_slice.new.self ≡ take (3 * s.n + 6 - 3) (drop 3 s.a.now) = c.copy_from_slice.ensures.after in
    let rest : length (drop 3 s.a.now) ≡ length s.a.now - 3 = length-drop 3 s.a.now in
    let long : length (take m (drop 3 s.a.now)) ≡ m = length-take-le m (drop 3 s.a.now) (omega arith) in
    rw part (vectors_copied (derivative (vector_numbers s.a.now)) s.n (take m (drop 3 s.a.now)) (omega arith) (omega arith)
    (λ k q. vector-taken (drop 3 s.a.now) m k (omega arith) ∙ vector-dropped s.a.now k))
