-- A loop that forms the entries of a surface's jet, i rising, then j, and stores each; and what a formula reads of them. Assumes nothing.
use Rattle.std.proofs.Common.{◌≡◌, ℕ, List, Float, ◌+◌, ◌-◌, ◌≤◌, ◌<◌, min, set, replicate, refl, sym, ap₂, ◌∙◌, arith}
use Rattle.std.specs.Float.{nan}
use Rattle.calculus.specs.Kind.{regular}
use Rattle.calculus.specs.Rising.{before_entry, rising_rows}
use Rattle.calculus.specs.Graded.{index}
use Rattle.calculus.specs.Array.{surface_array}
use Rattle.calculus.proofs.Related.{same_module}
use Rattle.calculus.proofs.Graded.{room-231, index-231}
use Rattle.calculus.proofs.LoopCut.{uncut-entry}
use Rattle.calculus.proofs.LoopSurfaceFilling.{SurfaceStored, surface-none, surface-more, surface-next, surface-all, surface-earlier}
use Rattle.calculus.specs.declared.Operation.{Operation}
use Rattle.formulas.specs.Operations.{surface_by}
use Rattle.calculus.specs.declared.Operation.TheVariants
use Rattle.ieee_vectors.specs.Vectors.{positive_zero}
use Rattle.formulas.specs.Real.{real}
use Rattle.formulas.specs.Numbers.{surface_numbers}
use Rattle.formulas.specs.Inner.{surface_formula}
use Rattle.formulas.proofs.Curves.{Eq}
use Rattle.calculus.proofs.Quotients.{surface_rational_entry-alike}

-- ---- an index that is cut is the entry's place, where the entry is one of the array's
pub at_place : (i j : ℕ) {k : ℕ} → i + j ≤ 20 → k ≡ index (min i 20) (min j (20 - min i 20)) → k ≡ index i j
at_place i j h e = e ∙ uncut-entry index h

pub in_array : (i j : ℕ) {k : ℕ} → i + j ≤ 20 → k ≡ index (min i 20) (min j (20 - min i 20)) → k < 231
in_array i j h e = omega (arith, at_place i j h e, index-231 i j h)

module _ (f : ℕ → ℕ → Float) {n : ℕ} (b : n ≤ 20) where
  abbrev pub SurfaceFilled : ℕ → ℕ → List Float → Type 0
  SurfaceFilled = SurfaceStored 231 nan positive_zero n (room-231 n b) (λ i j v. f i j ≡ v)

  pub surface_none : SurfaceFilled 0 0 (replicate 231 positive_zero)
  surface_none = surface-none 231 nan positive_zero n (room-231 n b) (λ i j v. f i j ≡ v)

  -- the entry [i][j] is stored at its place k
  pub surface_more : {i j k : ℕ} {v : Float} {r : List Float} → SurfaceFilled i j r → i + j ≤ n → f i j ≡ v → k ≡ index i j → SurfaceFilled i (j + 1) (set r k v)
  surface_more {v = v} s h e k = rw k (surface-more 231 nan positive_zero n (room-231 n b) (λ i j v. f i j ≡ v) v s h e)

  pub surface_row : {i j : ℕ} {r : List Float} → SurfaceFilled i j r → n < i + j → SurfaceFilled (i + 1) 0 r
  surface_row = surface-next 231 nan positive_zero n (room-231 n b) (λ i j v. f i j ≡ v)

  pub surface_all : {i : ℕ} {r : List Float} → SurfaceFilled i 0 r → n < i → r ≡ surface_array positive_zero f n
  surface_all = surface-all 231 nan positive_zero n (room-231 n b) (λ i j v. f i j ≡ v) f (λ i j v q. sym q)

-- ---- a formula reads only entries that are formed, or that it forms
surface-reads : (f : Operation) (a b p q : ℕ → ℕ → Float) (N m n : ℕ) → m + n ≤ N → ((i j : ℕ) → i + j ≤ N → p i j ≡ q i j) →
    surface_formula f a b p m n ≡ surface_formula f a b q m n
surface-reads TheVariants.Sum a b p q N m n l h = refl
surface-reads TheVariants.Difference a b p q N m n l h = refl
surface-reads TheVariants.Product a b p q N m n l h = refl
surface-reads TheVariants.Quotient a b p q N m n l h =
    surface_rational_entry-alike Eq Eq (regular real) (regular real) (same_module (regular real)) real.over real.over (λ a s b t e g. ap₂ real.over e g) N
    a a b b (λ i j l. refl) (λ i j l. refl) m n l p q (λ i j c d. h i j (omega arith))

abbrev pub surface_of : Operation → (ℕ → ℕ → Float) → (ℕ → ℕ → Float) → ℕ → ℕ → Float
surface_of f a b = rising_rows positive_zero (surface_formula f a b)

pub surface-formed : (f : Operation) (a b : ℕ → ℕ → Float) {N : ℕ} (l : N ≤ 20) {r : List Float} {m n : ℕ} → SurfaceFilled (surface_of f a b) l m n r → m + n ≤ N →
    surface_of f a b m n ≡ surface_formula f a b (surface_numbers r) m n
surface-formed f a b {N} l {r} {m} {n} s h =
    surface-reads f a b (before_entry positive_zero (surface_formula f a b) m n) (surface_numbers r) N m n h
    (λ i j e. surface-earlier 231 nan positive_zero N (room-231 N l) (λ (x : Float). x) (surface_formula f a b) s i j e)

pub surface-by : (f : Operation) (a b : ℕ → ℕ → Float) → surface_of f a b ≡ surface_by f a b
surface-by TheVariants.Sum a b = refl
surface-by TheVariants.Difference a b = refl
surface-by TheVariants.Product a b = refl
surface-by TheVariants.Quotient a b = refl
