-- `exact_formulas::surfaces::leibniz_term` meets its contract. Assumes nothing.
use Rattle.std.proofs.Common.{arith}
use Rattle.calculus.proofs.LoopTable.{small_product}
use Rattle.exact_formulas.proofs.Terms.{chosen}
use Rattle.exact_formulas.proofs.surfaces.leibniz_term.Goals as goal

pub overflow_mul-coefficient : goal.overflow_mul-coefficient
overflow_mul-coefficient c =
    let a = c.args in
    record { fits = small_product a.m a.n a.i a.j (chosen a.m a.i (omega arith) c.choose.ensures) (chosen a.n a.j (omega arith) c.choose-2.ensures) c.requires.2 }
