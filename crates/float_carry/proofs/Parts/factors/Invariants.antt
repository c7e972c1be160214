-- `float_carry::Parts::factors` meets its contract. The invariant: the product so far, times the factors still to come, is the whole. Assumes nothing.
use Rattle.std.proofs.Common.{◌≡◌, drop}
use Rattle.calculus.specs.Carry.{factors as Factors, coordinates}
use Rattle.formulas.specs.Numbers.{curve_numbers}
use Rattle.formulas.specs.Real.{real}
use Rattle.float_carry.proofs.Parts.factors.Given as goal

abbrev pub invariant-loop-a : goal.invariant-loop-a
invariant-loop-a l =
    let f = coordinates (curve_numbers l.u) (curve_numbers l.v) in
    Factors real 2 f l.product (drop l.a-index l.self.list.now) l.rest ≡ Factors real 2 f real.one l.self.list.now l.mask
