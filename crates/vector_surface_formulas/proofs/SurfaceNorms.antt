-- The norm of a surface of vectors: what an entry reads of those before it. Assumes nothing.
use Rattle.std.proofs.Common.{◌≡◌, refl, ap, ap₂, ◌∙◌, List, ℕ, ◌+◌, ◌≤◌, arith, get_or, Float}
use lib.Ieee.{nan}
use Rattle.ieee.specs.SquareRoot.{square_root}
use Rattle.ieee_vectors.specs.declared.Vector3.{Vector3}
use Rattle.ieee_vectors.specs.Vectors.{dot, positive_zero}
use Rattle.calculus.specs.Rising.{before_entry}
use Rattle.calculus.specs.Graded.{index}
use Rattle.calculus.specs.Array.{surface_array}
use Rattle.calculus.proofs.Related.{same}
use Rattle.calculus.proofs.Graded.{room-231}
use Rattle.calculus.proofs.LoopSurfaceFilling.{surface-earlier, array_at}
use Rattle.formulas.specs.Real.{real}
use Rattle.calculus.specs.Norm.{surface_norm_entry}
use Rattle.formulas.specs.Numbers.{surface_numbers}
use Rattle.vector_surface_formulas.specs.Formulas.{vector_surface_norm}
use Rattle.formulas.proofs.Curves.{Eq}
use Rattle.calculus.proofs.Norms.{surface_norm_entry-alike}
use Rattle.formulas.proofs.Surfaces.{SurfaceFilled}

abbrev Same : Vector3 → Vector3 → Type 0
Same a b = a ≡ b

pub norm-formed : (s : ℕ → ℕ → Vector3) {N : ℕ} (l : N ≤ 20) {r : List Float} {m n : ℕ} → SurfaceFilled (vector_surface_norm s) l m n r → m + n ≤ N →
    vector_surface_norm s m n ≡ surface_norm_entry real square_root dot s (surface_numbers r) m n
norm-formed s {N} l {r} {m} {n} p h =
    surface_norm_entry-alike Eq Same real real (same real) square_root square_root (λ a b e. ap square_root e) dot dot (λ a c b d e f. ap₂ dot e f) N s s (λ i j e. refl)
    m n h (before_entry positive_zero (surface_norm_entry real square_root dot s) m n) (surface_numbers r)
    (λ i j e. surface-earlier 231 nan positive_zero N (room-231 N l) (λ (x : Float). x) (surface_norm_entry real square_root dot s) p i j e)

pub first_entry : (f : ℕ → ℕ → Float) (n : ℕ) → n ≤ 20 → {r : List Float} → r ≡ surface_array positive_zero f n → get_or r 0 nan ≡ f 0 0
unfolding index
first_entry f n l e = ap (λ (x : List Float). get_or x 0 nan) e ∙ array_at nan positive_zero f n 0 0 l (omega arith)
