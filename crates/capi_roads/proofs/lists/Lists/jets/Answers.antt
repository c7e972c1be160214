use Rattle.std.proofs.Common.{◌≡◌, [], ◌∷◌, ℕ, ◌+◌, ◌-◌, ◌<◌, min, length, take, drop, get_or, refl, sym, ap, ap₂, ◌∙◌, subst, arith, rules, length-drop, drop-drop}
use Rattle.std.proofs.lemmas.List.{get_or-take}
use Rattle.calculus.proofs.LoopFilling.{CurveStored, curve-none, curve-more}
use Rattle.capi_roads.specs.Recipes.{total, jet_at}
use Rattle.capi_roads.proofs.RecipeLists.{below-20, total-more, within-entries, among-four, first-filled}
use Rattle.capi_roads.proofs.lists.Lists.jets.Invariants.{Entry}
use Rattle.capi_roads.proofs.lists.Lists.jets.Goals as goal

pub loop-i-init : goal.loop-i-init
unfolding total
loop-i-init g c =
    let s = c.args.self.now in
    let read = g.J.Listed.input.jet in
    let has = Entry g.J.Jets.size read s.orders.now s.entries.now in
    (c.min-count.ensures, refl, subst (λ (b : g.row.J.Denot). CurveStored 4 (read 0 []) (read 0 []) has 0 (b ∷ b ∷ b ∷ b ∷ [])) (sym c.read-jets.ensures) (curve-none 4 (read 0 []) (read 0 []) has))

pub size-requires : goal.size-requires
size-requires g c =
    let os = c.args.self.now.orders.now in
    let i = c.loop-i.i in
    let b : i < c.min-count.result = search rules in
    let at = get_or-take c.min-count.result os i 0 b in
    omega (arith, at, below-20 os c.requires.0 i (among-four os c.loop-i.invariant.0 b))

pub split_at-requires : goal.split_at-requires
split_at-requires g c =
    let size = g.J.Jets.size in
    let s = c.args.self.now in
    let i = c.loop-i.i in
    let b : i < c.min-count.result = search rules in
    let p = total size (take i s.orders.now) in
    let k = c.size.ensures ∙ ap size (get_or-take c.min-count.result s.orders.now i 0 b) in
    let w = within-entries size s.orders.now i (among-four s.orders.now c.loop-i.invariant.0 b) p c.size.result (length s.entries.now) refl k c.requires.1 in
    let l : length c.loop-i.rest.now ≡ length s.entries.now - p = ap length c.loop-i.invariant.1 ∙ length-drop p s.entries.now in
    omega (arith, w, l)

pub loop-i-preserved : goal.loop-i-preserved
unfolding jet_at
loop-i-preserved g c =
    let size = g.J.Jets.size in
    let read = g.J.Listed.input.jet in
    let os = c.args.self.now.orders.now in
    let es = c.args.self.now.entries.now in
    let i = c.loop-i.i in
    let b : i < c.min-count.result = search rules in
    let at = get_or-take c.min-count.result os i 0 b in
    let k = c.size.ensures ∙ ap size at in
    let h = among-four os c.loop-i.invariant.0 b in
    let p = total size (take i os) in
    let front : c.split_at.result.0.now ≡ take (size (get_or os i 0)) (drop p es) = c.split_at.ensures.front ∙ ap₂ take k c.loop-i.invariant.1 in
    let v : c.read.result ≡ jet_at size read os es i = c.read.ensures ∙ ap₂ read at front in (
      c.loop-i.invariant.0,
      c.split_at.ensures.back ∙ ap (drop c.size.result) c.loop-i.invariant.1 ∙ drop-drop c.size.result p es ∙ ap (λ (n : ℕ). drop n es) (ap (λ (n : ℕ). p + n) k ∙ sym (total-more size os i h)),
      curve-more 4 (read 0 []) (read 0 []) (Entry size read os es) _ c.loop-i.invariant.2 (omega (arith, b, c.loop-i.invariant.0)) v,
    )

pub returns : goal.returns
returns g c =
    let s = c.args.self.now in
    let read = g.J.Listed.input.jet in
    let e : c.loop-i.i ≡ min (length s.orders.now) 4 = search rules in
    first-filled 4 (read 0 []) (jet_at g.J.Jets.size read s.orders.now s.entries.now) (length s.orders.now) c.loop-i.invariant.2 e
