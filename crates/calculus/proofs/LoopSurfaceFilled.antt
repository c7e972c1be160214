-- A surface's array that a loop fills, i rising, then j: the entries before [i][j] stand in it, and blanks elsewhere. Assumes nothing.
use Rattle.std.proofs.Common.{◌≡◌, List, ℕ, ◌+◌, ◌≤◌, ◌<◌, set, replicate}
use Rattle.calculus.specs.Graded.{index}
use Rattle.calculus.specs.Array.{surface_array}
use Rattle.calculus.proofs.Graded.{room-231}
use Rattle.calculus.proofs.LoopSurfaceFilling.{SurfaceStored, surface-none, surface-more, surface-next, surface-all}

module _ {X : Type 0} (blank : X) (f : ℕ → ℕ → X) {n : ℕ} (b : n ≤ 20) where
  abbrev pub SurfaceFilled : ℕ → ℕ → List X → Type 0
  SurfaceFilled = SurfaceStored 231 blank blank n (room-231 n b) (λ i j v. v ≡ f i j)

  pub filled-none : SurfaceFilled 0 0 (replicate 231 blank)
  filled-none = surface-none 231 blank blank n (room-231 n b) (λ i j v. v ≡ f i j)

  -- the entry [i][j] is stored at its place k
  pub filled-more : {i j k : ℕ} {v : X} {r : List X} → SurfaceFilled i j r → i + j ≤ n → v ≡ f i j → k ≡ index i j → SurfaceFilled i (j + 1) (set r k v)
  filled-more {v} s h e k = rw k (surface-more 231 blank blank n (room-231 n b) (λ i j v. v ≡ f i j) v s h e)

  pub filled-row : {i j : ℕ} {r : List X} → SurfaceFilled i j r → n < i + j → SurfaceFilled (i + 1) 0 r
  filled-row = surface-next 231 blank blank n (room-231 n b) (λ i j v. v ≡ f i j)

  pub filled-all : {i : ℕ} {r : List X} → SurfaceFilled i 0 r → n < i → r ≡ surface_array blank f n
  filled-all = surface-all 231 blank blank n (room-231 n b) (λ i j v. v ≡ f i j) f (λ i j v e. e)
