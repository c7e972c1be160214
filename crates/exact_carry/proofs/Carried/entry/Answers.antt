-- `exact_carry::Carried::entry` meets its contract. Assumes nothing.
use Rattle.std.proofs.Common.{rules, ap, ◌∙◌, pos, get_or, Ok, FitsSigned, w64}
use Rattle.std.proofs.Math.Facts.{to_z-of_z}
use Rattle.calculus.specs.Kind.{regular}
use Rattle.calculus.specs.Carry.{composite_derivative}
use Rattle.calculus.proofs.LoopCut.{uncut}
use Rattle.exact_formulas.specs.Kinds.{checked}
use Rattle.exact_formulas.specs.Entries.{curve_values, surface_values}
use Rattle.exact_carry.proofs.Masks.{carried-value, carried-derivative}
use Rattle.exact_carry.proofs.Carried.entry.Goals as goal

pub returns-then-m-eq0 : goal.returns-then-m-eq0
returns-then-m-eq0 c =
    let s = c.args in
    let fx : FitsSigned w64 (get_or s.self.now.entries.now 0 (pos 0)) = search rules in
    ap Ok (to_z-of_z fx) ∙ carried-value s.self.now.entries.now s.self.now.u.now s.self.now.v.now s.m c.if-m-eq0.true

pub returns-else-m-eq0 : goal.returns-else-m-eq0
returns-else-m-eq0 c =
    let s = c.args in
    c.derivative.ensures
    ∙ uncut (composite_derivative (regular checked) (curve_values s.self.now.u.now) (curve_values s.self.now.v.now) (surface_values s.self.now.entries.now)) c.requires
    ∙ carried-derivative s.self.now.entries.now s.self.now.u.now s.self.now.v.now s.m c.if-m-eq0.false
