-- Which partials are served: m times by u, along the arc, and n times by v, along the edge. Assumes nothing.
use Rattle.std.specs.Prelude.{ℕ, cond, ◌&&◌, leb, eqb}
use Rattle.partials.specs.declared.EdgePartial.{EdgePartial}
use Rattle.partials.specs.declared.EdgePartial.TheVariants as along
use Rattle.partials.specs.declared.Decision.{Decision}
use Rattle.partials.specs.declared.Decision.TheVariants.{Arc, Edge, Unserved}

-- ---- the pairs served: (m, 0) with m up to 20, (0, 1), (1, 1) and (0, 2)
abbrev pub decided : (m n : ℕ) → Decision
decided m n =
    cond (leb m 20 && eqb n 0) Arc
    (cond (eqb m 0 && eqb n 1) (Edge along.V)
    (cond (eqb m 1 && eqb n 1) (Edge along.Uv)
    (cond (eqb m 0 && eqb n 2) (Edge along.Vv)
    Unserved)))

-- how often a partial is derived along the edge
abbrev pub order_of : EdgePartial → ℕ
order_of along.V = 1
order_of along.Uv = 1
order_of along.Vv = 2
