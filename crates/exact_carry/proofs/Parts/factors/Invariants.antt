-- `exact_carry::Parts::factors` meets its contract. The invariant: the product so far, times the factors still to come, is the whole. Assumes nothing.
use Rattle.std.proofs.Common.{◌≡◌, drop, Ok}
use Rattle.calculus.specs.Carry.{factors as Factors, coordinates}
use Rattle.exact_formulas.specs.Kinds.{checked}
use Rattle.exact_formulas.specs.Entries.{curve_values}
use Rattle.exact_carry.proofs.Parts.factors.Given as goal

abbrev pub invariant-loop-a : goal.invariant-loop-a
invariant-loop-a l =
    let f = coordinates (curve_values l.u) (curve_values l.v) in
    Factors checked 2 f (Ok l.product) (drop l.a-index l.self.list.now) l.rest ≡ Factors checked 2 f checked.one l.self.list.now l.mask
