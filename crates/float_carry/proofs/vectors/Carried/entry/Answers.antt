-- `float_carry::vectors::Carried::entry` meets its contract. Assumes nothing.
use Rattle.std.proofs.Common.{◌∙◌}
use Rattle.calculus.specs.Graded.{index}
use Rattle.calculus.specs.Carry.{composite_derivative}
use Rattle.calculus.proofs.LoopCut.{uncut}
use Rattle.vector_formulas.specs.Vector.{vectors, vector_surface_numbers}
use Rattle.formulas.specs.Numbers.{curve_numbers}
use Rattle.float_carry.proofs.Carries.{carried-value, carried-derivative}
use Rattle.float_carry.proofs.vectors.Carried.entry.Goals as goal

pub returns-then-m-eq0 : goal.returns-then-m-eq0
unfolding index
returns-then-m-eq0 c =
    let s = c.args in
    c.vector_at.ensures ∙ carried-value vectors (vector_surface_numbers s.self.now.entries.now) s.self.now.u.now s.self.now.v.now s.m c.if-m-eq0.true

pub returns-else-m-eq0 : goal.returns-else-m-eq0
returns-else-m-eq0 c =
    let s = c.args in
    c.derivative.ensures
    ∙ uncut (composite_derivative vectors (curve_numbers s.self.now.u.now) (curve_numbers s.self.now.v.now) (vector_surface_numbers s.self.now.entries.now)) c.requires
    ∙ carried-derivative vectors (vector_surface_numbers s.self.now.entries.now) s.self.now.u.now s.self.now.v.now s.m c.if-m-eq0.false
