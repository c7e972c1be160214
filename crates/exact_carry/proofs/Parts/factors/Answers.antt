-- `exact_carry::Parts::factors` meets its contract. Assumes nothing.
use Rattle.std.proofs.Common.{rules, ◌≡◌, ◌+◌, ◌/◌, ◌%◌, ◌*ℤ◌, drop, get_or, sym, ap, ◌∙◌, arith, pos, Ok, FitsSigned, w64, to_z}
use Rattle.std.proofs.Math.Facts.{to_z-of_z}
use Rattle.partitions.proofs.Member.{part-total}
use Rattle.calculus.specs.Carry.{factors as Factors, coordinates}
use Rattle.calculus.proofs.LoopBits.{factors-at, factors-past, by-u, by-v}
use Rattle.whole.specs.Checked.{formed}
use Rattle.exact_formulas.specs.Kinds.{checked}
use Rattle.exact_formulas.specs.Entries.{curve_values}
use Rattle.exact_formulas.proofs.Terms.{handed}
use Rattle.exact_carry.proofs.Masks.{factors-refused}
use Rattle.exact_carry.proofs.Parts.factors.Goals as goal
use Rattle.exact_carry.proofs.Parts.factors.Goals.{then-rest-eq0, else-rest-eq0}

-- a part is at most the total, so u and v have its order
pub offset_bounds-u-a : goal.offset_bounds-u-a
offset_bounds-u-a c = omega (arith, part-total c.args.self.now.list.now c.loop-a.a-index, c.args.self.now.small)

pub bounds-u-a : goal.bounds-u-a
bounds-u-a c = omega (arith, part-total c.args.self.now.list.now c.loop-a.a-index, c.args.self.now.small)

pub offset_bounds-v-a : goal.offset_bounds-v-a
offset_bounds-v-a c = omega (arith, part-total c.args.self.now.list.now c.loop-a.a-index, c.args.self.now.small)

pub bounds-v-a : goal.bounds-v-a
bounds-v-a c = omega (arith, part-total c.args.self.now.list.now c.loop-a.a-index, c.args.self.now.small)

pub returns-in_err-product : goal.returns-in_err-product
returns-in_err-product c =
    let j = c.if-rest-eq0 in
    let l = c.loop-a in
    let s = c.args in
    let u = curve_values s.u.now in
    let v = curve_values s.v.now in
    let f = coordinates u v in
    let a = get_or s.self.now.list.now l.a-index 0 in
    let x : Ok (to_z w64 j.x-bits) ≡ f (l.rest % 2) a = elim j.branch [
      | then-rest-eq0 w ↦ by-u u v (l.rest % 2) a (Ok (to_z w64 j.x-bits)) w.if-rest-eq0.true (let g : FitsSigned w64 (get_or s.u.now a (pos 0)) = search rules in ap Ok (w.x-is ∙ to_z-of_z g))
      | else-rest-eq0 w ↦ by-v u v (l.rest % 2) a (Ok (to_z w64 j.x-bits)) w.if-rest-eq0.false (let g : FitsSigned w64 (get_or s.v.now a (pos 0)) = search rules in ap Ok (w.x-is ∙ to_z-of_z g))
    ] in
    let e : formed ((to_z w64 l.product-bits) *ℤ to_z w64 j.x-bits) ≡ checked.times (Ok (to_z w64 l.product-bits)) (f (l.rest % 2) a) = ap (checked.times (Ok (to_z w64 l.product-bits))) x in
    handed c.from_residual.ensures
    ∙ factors-refused f c.in_err-product.field-0.0 (drop (l.a-index + 1) s.self.now.list.now) (l.rest / 2)
    ∙ ap (λ r. Factors checked 2 f r (drop (l.a-index + 1) s.self.now.list.now) (l.rest / 2)) (c.in_err-product.ensures ∙ e)
    ∙ sym (factors-at checked 2 f (Ok (to_z w64 l.product-bits)) s.self.now.list.now l.a-index l.rest (omega arith)) ∙ l.invariant

pub loop-a-preserved : goal.loop-a-preserved
loop-a-preserved c =
    let j = c.if-rest-eq0 in
    let l = c.loop-a in
    let s = c.args in
    let u = curve_values s.u.now in
    let v = curve_values s.v.now in
    let f = coordinates u v in
    let a = get_or s.self.now.list.now l.a-index 0 in
    let x : Ok (to_z w64 j.x-bits) ≡ f (l.rest % 2) a = elim j.branch [
      | then-rest-eq0 w ↦ by-u u v (l.rest % 2) a (Ok (to_z w64 j.x-bits)) w.if-rest-eq0.true (let g : FitsSigned w64 (get_or s.u.now a (pos 0)) = search rules in ap Ok (w.x-is ∙ to_z-of_z g))
      | else-rest-eq0 w ↦ by-v u v (l.rest % 2) a (Ok (to_z w64 j.x-bits)) w.if-rest-eq0.false (let g : FitsSigned w64 (get_or s.v.now a (pos 0)) = search rules in ap Ok (w.x-is ∙ to_z-of_z g))
    ] in
    let e : formed ((to_z w64 l.product-bits) *ℤ to_z w64 j.x-bits) ≡ checked.times (Ok (to_z w64 l.product-bits)) (f (l.rest % 2) a) = ap (checked.times (Ok (to_z w64 l.product-bits))) x in
    let y : FitsSigned w64 c.in_ok-product.product = search rules in
    ap (λ r. Factors checked 2 f r (drop (l.a-index + 1) s.self.now.list.now) (l.rest / 2)) (ap Ok (to_z-of_z y) ∙ c.in_ok-product.ensures ∙ e)
    ∙ sym (factors-at checked 2 f (Ok (to_z w64 l.product-bits)) s.self.now.list.now l.a-index l.rest (omega arith)) ∙ l.invariant

pub returns : goal.returns
returns c =
    let s = c.args in
    let l = c.loop-a in
    sym (factors-past checked 2 (coordinates (curve_values s.u.now) (curve_values s.v.now)) (Ok (to_z w64 l.product-bits)) s.self.now.list.now l.a-index l.rest (omega arith)) ∙ l.invariant
