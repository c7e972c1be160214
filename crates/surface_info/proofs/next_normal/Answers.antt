-- `next_normal` meets its contract, call by call. Assumes nothing.
use Rattle.std.proofs.Common.{ap, ap₂, ◌∙◌, List, Float}
use Rattle.ieee_vectors.specs.Vectors.{quotient}
use Rattle.calculus.specs.Rational.{rational}
use Rattle.formulas.specs.Numbers.{curve_numbers}
use Rattle.vector_formulas.specs.Vector.{vectors, vector_numbers, stored}
use Rattle.surface_info.specs.SurfaceInfo.{next_norm, next_normal}
use Rattle.surface_info.specs.declared.Normal.{Normal}
use Rattle.surface_info.proofs.next_normal.Goals as goal

abbrev normal : (cross norm unit : List Float) → Normal
normal cross norm unit = record { cross = cross; norm = norm; unit = unit }

pub returns : goal.returns
unfolding next_normal
returns c =
    let s = c.args in
    let a = s.a.now in
    let e = c.put-cross.ensures ∙ ap (stored a.cross s.m) c.cross_entry.ensures in
    let f = c.next_norm-norm.ensures ∙ ap (λ (y : List Float). next_norm y a.norm s.m) e in
    let q = c.rational_entry.ensures ∙ ap₂ (λ (y z : List Float). rational vectors quotient (vector_numbers y) (curve_numbers z) s.m) e f in
    let g = c.put-unit.ensures ∙ ap (stored a.unit s.m) q in
    λ i. normal (e i) (f i) (g i)
