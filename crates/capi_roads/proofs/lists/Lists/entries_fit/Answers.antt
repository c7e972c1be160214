use Rattle.std.proofs.Common.{◌+◌, ℕ, length, take, ap, sym, ◌∙◌, rules}
use Rattle.refusals.specs.Number.{number, number_of}
use Rattle.roads.proofs.Answers.{passed-on}
use Rattle.capi_roads.specs.Recipes.{total}
use Rattle.capi_roads.proofs.RecipeLists.{below-20, counted-off, runs-out, too_few, enough, total-none}
use Rattle.capi_roads.proofs.lists.Lists.entries_fit.Goals as goal

pub loop-n-init : goal.loop-n-init
loop-n-init g c =
    let s = c.args.self.now in
    total-none g.J.Jets.size s.orders.now (length s.entries.now)

pub size-requires : goal.size-requires
size-requires g c = below-20 c.args.self.now.orders.now c.requires c.loop-n.n-index (search rules)

pub returns-in_err-rest : goal.returns-in_err-rest
returns-in_err-rest g c =
    let s = c.args.self.now in
    let l = c.loop-n in
    let r = runs-out _ c.checked_sub.ensures c.ok_or.ensures.value c.in_err-rest.was in
    ap number_of (passed-on c.from_residual.ensures.1) ∙ ap number r.1
    ∙ too_few g.J.Jets.size s.orders.now l.n-index (search rules) (length s.entries.now) l.rest c.size.result l.invariant c.size.ensures r.0

pub loop-n-preserved : goal.loop-n-preserved
loop-n-preserved g c =
    let s = c.args.self.now in
    let l = c.loop-n in
    let r = counted-off _ c.checked_sub.ensures c.ok_or.ensures.value c.in_ok-rest.was in
    enough g.J.Jets.size s.orders.now l.n-index (search rules) (length s.entries.now) l.rest c.size.result l.invariant c.size.ensures r.0
    ∙ ap (λ (k : ℕ). total g.J.Jets.size (take (l.n-index + 1) s.orders.now) + k) (sym r.1)
