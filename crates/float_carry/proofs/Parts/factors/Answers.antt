use Rattle.std.proofs.Common.{◌≡◌, ◌+◌, ◌/◌, ◌%◌, drop, get_or, sym, ap, ◌∙◌, arith}
use Rattle.partitions.proofs.Member.{part-total}
use Rattle.calculus.specs.Carry.{factors as Factors, coordinates}
use Rattle.calculus.proofs.LoopBits.{factors-at, factors-past, by-u, by-v}
use Rattle.formulas.specs.Numbers.{curve_numbers}
use Rattle.formulas.specs.Real.{real}
use Rattle.float_carry.proofs.Parts.factors.Goals as goal
use Rattle.float_carry.proofs.Parts.factors.Goals.{then-rest-eq0, else-rest-eq0}

-- a part is at most the total, so u and v have its order
pub offset_bounds-u-a : goal.offset_bounds-u-a
offset_bounds-u-a c = omega (arith, part-total c.args.self.now.list.now c.loop-a.a-index, c.args.self.now.small)

pub bounds-u-a : goal.bounds-u-a
bounds-u-a c = omega (arith, part-total c.args.self.now.list.now c.loop-a.a-index, c.args.self.now.small)

pub offset_bounds-v-a : goal.offset_bounds-v-a
offset_bounds-v-a c = omega (arith, part-total c.args.self.now.list.now c.loop-a.a-index, c.args.self.now.small)

pub bounds-v-a : goal.bounds-v-a
bounds-v-a c = omega (arith, part-total c.args.self.now.list.now c.loop-a.a-index, c.args.self.now.small)

pub loop-a-preserved : goal.loop-a-preserved
loop-a-preserved c =
    let j = c.if-rest-eq0 in
    let l = c.loop-a in
    let s = c.args in
    let u = curve_numbers s.u.now in
    let v = curve_numbers s.v.now in
    let f = coordinates u v in
    let a = get_or s.self.now.list.now l.a-index 0 in
    let x : j.x ≡ f (l.rest % 2) a = elim j.branch [
      | then-rest-eq0 w ↦ by-u u v (l.rest % 2) a j.x w.if-rest-eq0.true w.x-is
      | else-rest-eq0 w ↦ by-v u v (l.rest % 2) a j.x w.if-rest-eq0.false w.x-is
    ] in
    ap (λ r. Factors real 2 f r (drop (l.a-index + 1) s.self.now.list.now) (l.rest / 2)) (ap (real.times l.product) x)
    ∙ sym (factors-at real 2 f l.product s.self.now.list.now l.a-index l.rest (omega arith)) ∙ l.invariant

pub returns : goal.returns
returns c =
    let s = c.args in
    let l = c.loop-a in
    sym (factors-past real 2 (coordinates (curve_numbers s.u.now) (curve_numbers s.v.now)) l.product s.self.now.list.now l.a-index l.rest (omega arith)) ∙ l.invariant
