-- A loop that forms the entries of a surface of vectors, i rising, then j, and stores each. Assumes nothing.
use Rattle.std.proofs.Common.{◌≡◌, sym, ap, ap₂, ◌∙◌, List, ℕ, ◌+◌, ◌*◌, ◌≤◌, ◌<◌, length, set, replicate, Float}
use Rattle.ieee_vectors.specs.declared.Vector3.{Vector3}
use Rattle.calculus.specs.Graded.{index}
use Rattle.calculus.proofs.Graded.{room-231}
use Rattle.calculus.proofs.LoopSurfaceFilling.{SurfaceStored, surface-none, surface-more, surface-next, surface-all}
use Rattle.ieee_vectors.specs.Vectors.{positive_zero}
use Rattle.vector_formulas.specs.Vector.{put, origin, flat, vector_surface_array}
use Rattle.vector_formulas.proofs.Vectors.{nowhere, Held, held-long, flat-put, flat-zeros}

module _ (f : ℕ → ℕ → Vector3) {n : ℕ} (b : n ≤ 20) where
  abbrev pub Stored : ℕ → ℕ → List Vector3 → Type 0
  Stored = SurfaceStored 231 nowhere origin n (room-231 n b) (λ i j v. f i j ≡ v)

  -- in an array of floats
  abbrev pub SurfaceFilled : ℕ → ℕ → List Float → Type 0
  SurfaceFilled i j = Held (Stored i j)

  pub surface_none : SurfaceFilled 0 0 (replicate 693 positive_zero)
  surface_none = record { list = replicate 231 origin; is = flat-zeros 231; holds = surface-none 231 nowhere origin n (room-231 n b) (λ i j v. f i j ≡ v) }

  pub surface_long : {i j : ℕ} {r : List Float} → SurfaceFilled i j r → 693 ≡ length r
  surface_long h = held-long 231 h h.holds.long

  -- the entry [i][j] is stored at its place k
  pub surface_more : {i j k : ℕ} {v : Vector3} {r q : List Float} → SurfaceFilled i j r → i + j ≤ n → f i j ≡ v → k ≡ index i j → q ≡ put r (3 * k) v →
      SurfaceFilled i (j + 1) q
  surface_more {i} {j} {v = v} h l e w g = record {
    list = set h.list (index i j) v;
    is = g ∙ ap₂ (λ (x : List Float) (y : ℕ). put x (3 * y) v) h.is w ∙ flat-put h.list (index i j) v;
    holds = surface-more 231 nowhere origin n (room-231 n b) (λ i j v. f i j ≡ v) v h.holds l e;
  }

  pub surface_row : {i j : ℕ} {r : List Float} → SurfaceFilled i j r → n < i + j → SurfaceFilled (i + 1) 0 r
  surface_row h l = record { list = h.list; is = h.is; holds = surface-next 231 nowhere origin n (room-231 n b) (λ i j v. f i j ≡ v) h.holds l }

  pub surface_all : {i : ℕ} {r : List Float} → SurfaceFilled i 0 r → n < i → r ≡ vector_surface_array f n
  surface_all h l = h.is ∙ ap flat (surface-all 231 nowhere origin n (room-231 n b) (λ i j v. f i j ≡ v) f (λ i j v q. sym q) h.holds l)
