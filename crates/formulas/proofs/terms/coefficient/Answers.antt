-- `formulas::terms::coefficient` meets its contract: a product of two coefficients whose orders total at most 20 fits 32 bits. Assumes nothing.
use Rattle.std.proofs.Common.{◌*◌, ap, ap₂, arith}
use Rattle.calculus.proofs.LoopTable.{small_product}
use Rattle.formulas.specs.Real.{real}
use Rattle.formulas.proofs.Coefficients.{chosen}
use Rattle.formulas.proofs.terms.coefficient.Goals as goal

pub overflow_mul-result : goal.overflow_mul-result
overflow_mul-result c =
    let a = c.args in
    record { fits = small_product a.m a.n a.i a.j (chosen a.m a.i (omega arith) c.choose-x.ensures) (chosen a.n a.j (omega arith) c.choose-y.ensures) c.requires }

pub returns : goal.returns
returns c =
    let a = c.args in
    ap real.of_nat (ap₂ ◌*◌ (chosen a.m a.i (omega arith) c.choose-x.ensures) (chosen a.n a.j (omega arith) c.choose-y.ensures))
