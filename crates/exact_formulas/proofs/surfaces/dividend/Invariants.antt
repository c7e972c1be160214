-- `exact_formulas::surfaces::dividend` meets its contract. The invariant: the rows passed are subtracted. Assumes nothing.
use Rattle.std.proofs.Common.{◌≡◌, suc, Ok}
use Rattle.calculus.specs.Kind.{regular}
use Rattle.calculus.specs.InTurn.{in_turn, in_rows}
use Rattle.calculus.specs.Surface.{leibniz}
use Rattle.exact_formulas.specs.Kinds.{checked}
use Rattle.exact_formulas.specs.Entries.{surface_values}
use Rattle.exact_formulas.proofs.surfaces.dividend.Given as goal

abbrev pub invariant-loop-i : goal.invariant-loop-i
invariant-loop-i l =
    Ok l.rest ≡ in_rows checked.minus (in_turn checked.minus (surface_values l.num l.m l.n) (λ j. leibniz (regular checked) checked.times (surface_values l.d) (surface_values l.q) l.m l.n 0 (suc j)) l.n)
    (λ k. leibniz (regular checked) checked.times (surface_values l.d) (surface_values l.q) l.m l.n (suc k)) l.i (suc l.n)
