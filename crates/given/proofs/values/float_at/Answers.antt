-- `given::values::float_at` meets its contract. Assumes nothing.
use Rattle.std.proofs.Common.{sym, arith}
use lib.Ieee.{nan, of_bits, div}
use lib.ListN.{get_or-eq_default}
use Rattle.given.proofs.values.float_at.Goals.{then-list-i-via-then-list-i, then-list-i-via-else-list-i+then-list-i-2}
use Rattle.given.proofs.values.float_at.Goals as goal

pub returns-then-list-i : goal.returns-then-list-i
unfolding div of_bits
returns-then-list-i c =
    let s = c.args in
    elim c.then-list-i.branch [
      | then-list-i-via-then-list-i w ↦ sym (get_or-eq_default s.list.now nan (omega arith))
      | then-list-i-via-else-list-i+then-list-i-2 w ↦ sym (get_or-eq_default s.list.now nan (omega arith))
    ]
