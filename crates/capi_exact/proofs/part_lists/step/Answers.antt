-- `capi_exact::part_lists::step` meets its contract. Assumes nothing.
use Rattle.std.proofs.Common.{◌≡◌, Bool, true, false, cond, List, ℕ, eqb, length, get_or, refl, ap, ap₂, sym, ◌∙◌, rules, suc-ne-zero, eqb-true}
use Rattle.given.specs.Given.{first, order_given}
use Rattle.given.proofs.Admission.{one-fits, rest-fits, count_fits, answered-0}
use Rattle.capi_exact.specs.PartLists.{flag_given, walk_given}
use Rattle.capi_exact.proofs.part_lists.step.Goals as goal

-- a walk that passes its test has 23 numbers
walk-fits : (walk : List ℕ) → walk_given walk ≡ 0 → length walk ≡ 23
unfolding walk_given
walk-fits walk e = by (eqb (length walk) 23) refl
  where
    by : (t : Bool) → eqb (length walk) 23 ≡ t → length walk ≡ 23
    by true q = eqb-true (length walk) 23 q
    by false q = absurd (suc-ne-zero 1 (sym (ap (λ (t : Bool). cond t (first (order_given (get_or walk 0 0)) (flag_given (get_or walk 2 0))) 2) q) ∙ e))

pub read_walk-held-requires : goal.read_walk-held-requires
read_walk-held-requires c =
    let a = c.args in
    let e = c.first.ensures ∙ ap₂ first c.test_walk.ensures c.count.ensures in
    walk-fits a.walk.now (one-fits _ _ (sym e ∙ answered-0 c.in_ok-first.was))

pub write_walk-requires : goal.write_walk-requires
write_walk-requires c =
    let a = c.args in
    let e = c.first.ensures ∙ ap₂ first c.test_walk.ensures c.count.ensures in
    walk-fits a.walk.now (one-fits _ _ (sym e ∙ answered-0 c.in_ok-first.was))

pub copy_from_slice-requires : goal.copy_from_slice-requires
copy_from_slice-requires c =
    let e = c.first.ensures ∙ ap₂ first c.test_walk.ensures c.count.ensures in
    let t : length c.unwrap_or.result ≡ 20 = search rules in
    count_fits 20 (length c.args.parts.now) (rest-fits _ _ (sym e ∙ answered-0 c.in_ok-first.was)) ∙ sym t
