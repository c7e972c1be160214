-- `exact_formulas::surfaces::quotient_entry` meets its contract. Assumes nothing.
use Rattle.std.proofs.Common.{rules}
use Rattle.calculus.specs.Graded.{index}
use Rattle.exact_formulas.proofs.surfaces.quotient_entry.Goals as goal

pub returns : goal.returns
unfolding index
returns c = search rules
