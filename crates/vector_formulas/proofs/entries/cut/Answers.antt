-- `vector_formulas::entries::cut` meets its contract. Assumes nothing.
use Rattle.std.proofs.Common.{◌≡◌, ◌+◌, ◌*◌, take, length, arith}
use Rattle.std.proofs.lemmas.List.{length-take-le}
use Rattle.vector_formulas.specs.Vector.{vector_numbers}
use Rattle.vector_formulas.proofs.Vectors.{vectors_copied, vector-taken}
use Rattle.vector_formulas.proofs.entries.cut.Goals as goal

pub returns : goal.returns
returns c =
    let s = c.args in
    let part : c.copy_from_slice.new.self ≡ take (3 * s.n + 3) s.a.now = c.copy_from_slice.ensures.after in
    let long : length (take (3 * s.n + 3) s.a.now) ≡ 3 * s.n + 3 = length-take-le (3 * s.n + 3) s.a.now (omega arith) in
    rw part (vectors_copied (vector_numbers s.a.now) s.n (take (3 * s.n + 3) s.a.now) c.requires long (λ k q. vector-taken s.a.now (3 * s.n + 3) k (omega arith)))
