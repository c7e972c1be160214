-- `vector_formulas::store` meets its contract. Assumes nothing.
use Rattle.std.proofs.Common.{sym, ◌∙◌, ◌+◌, ◌*◌, arith, length, Bool, cond, ap, le-ltb}
use Rattle.vector_formulas.specs.Vector.{put}
use Rattle.vector_formulas.proofs.Vectors.{stored-put}
use Rattle.vector_formulas.proofs.store.Goals as goal

pub returns-then-k-a : goal.returns-then-k-a
returns-then-k-a c =
    let s = c.args in
    c.store.ensures ∙ sym (stored-put s.a.now s.k s.v (omega arith))

pub returns-else-k-a : goal.returns-else-k-a
returns-else-k-a c =
    let s = c.args in
    sym (ap (λ (t : Bool). cond t (put s.a.now (3 * s.k) s.v) s.a.now) (le-ltb (3 * s.k + 2) (length s.a.now) (omega arith)))
