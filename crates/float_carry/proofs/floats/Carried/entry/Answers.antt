-- `float_carry::floats::Carried::entry` meets its contract. Assumes nothing.
use Rattle.std.proofs.Common.{◌∙◌}
use Rattle.calculus.specs.Graded.{index}
use Rattle.calculus.specs.Carry.{composite_derivative}
use Rattle.calculus.proofs.LoopCut.{uncut}
use Rattle.calculus.specs.Kind.{regular}
use Rattle.formulas.specs.Real.{real}
use Rattle.formulas.specs.Numbers.{curve_numbers, surface_numbers}
use Rattle.float_carry.proofs.Carries.{carried-value, carried-derivative}
use Rattle.float_carry.proofs.floats.Carried.entry.Goals as goal

pub returns-then-m-eq0 : goal.returns-then-m-eq0
unfolding index
returns-then-m-eq0 c =
    let s = c.args in
    carried-value (regular real) (surface_numbers s.self.now.entries.now) s.self.now.u.now s.self.now.v.now s.m c.if-m-eq0.true

pub returns-else-m-eq0 : goal.returns-else-m-eq0
returns-else-m-eq0 c =
    let s = c.args in
    c.derivative.ensures
    ∙ uncut (composite_derivative (regular real) (curve_numbers s.self.now.u.now) (curve_numbers s.self.now.v.now) (surface_numbers s.self.now.entries.now)) c.requires
    ∙ carried-derivative (regular real) (surface_numbers s.self.now.entries.now) s.self.now.u.now s.self.now.v.now s.m c.if-m-eq0.false
