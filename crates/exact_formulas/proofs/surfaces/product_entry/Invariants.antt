-- `exact_formulas::surfaces::product_entry` meets its contract. The invariant: the sum is that of the rows passed. Assumes nothing.
use Rattle.std.proofs.Common.{◌≡◌, suc, Ok}
use Rattle.calculus.specs.Kind.{regular}
use Rattle.calculus.specs.InTurn.{in_rows}
use Rattle.calculus.specs.Surface.{leibniz}
use Rattle.exact_formulas.specs.Kinds.{checked}
use Rattle.exact_formulas.specs.Entries.{surface_values}
use Rattle.exact_formulas.proofs.surfaces.product_entry.Given as goal

abbrev pub invariant-loop-i : goal.invariant-loop-i
invariant-loop-i l = Ok l.sum ≡ in_rows checked.plus checked.zero (leibniz (regular checked) checked.times (surface_values l.a) (surface_values l.b) l.m l.n) l.i (suc l.n)
