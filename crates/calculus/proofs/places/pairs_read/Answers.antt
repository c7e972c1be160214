-- The list of a parameter curve is read. Assumes nothing.
use Rattle.std.proofs.Common.{◌≡◌, ◌+◌, ◌*◌, suc, min, ap₂, List, get_or, arith}
use Rattle.calculus.proofs.LoopFilling.{curve-all}
use Rattle.calculus.proofs.places.pairs_read.Goals as goal

pub returns : goal.returns
returns g c =
    let a = c.args in
    let i = c.loop-m.invariant in
    let e : c.loop-m.m ≡ suc (min a.n 20) = omega (arith, c.min-m-end.ensures) in
    ap₂ (λ (u v : List g.row.T.Denot). (u, v))
    (curve-all 21 a.zero a.zero (λ k x. x ≡ get_or a.list.now (2 * k) a.zero) (λ k. get_or a.list.now (2 * k) a.zero) (λ k v e. e) (suc (min a.n 20)) i.0 e)
    (curve-all 21 a.zero a.zero (λ k x. x ≡ get_or a.list.now (2 * k + 1) a.zero) (λ k. get_or a.list.now (2 * k + 1) a.zero) (λ k v e. e) (suc (min a.n 20)) i.1 e)
