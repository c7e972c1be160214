-- The graded index of a surface's entries: which are below (N + 1)(N + 2)/2, no two share a place, and a total order's run is consecutive.
-- Assumes nothing.
use Rattle.std.proofs.Common.{◌≡◌, refl, sym, ◌∙◌, ap, ap₂, mul-le-mul, ℕ, zero, suc, ◌+◌, ◌*◌, ◌/◌, ◌≤◌, ◌<◌, arith}
use Rattle.calculus.specs.Graded.{triangle, index, after, place}
use Rattle.calculus.proofs.Layers.{size_mono, layer_below, layer-only, layer-same, layer-place}

pub triangle-suc : (n : ℕ) → triangle (suc n) ≡ triangle n + suc n
unfolding triangle
triangle-suc n = omega arith

pub index_is : (i j : ℕ) → index i j ≡ triangle (i + j) + i
unfolding triangle index
index_is i j = refl

-- below the triangle of N + 1 stand the entries up to the order N, and no others
pub index_below : (N i j : ℕ) → i + j ≤ N → index i j < triangle (suc N)
index_below N i j l = rw (index_is i j) (layer_below triangle suc triangle-suc N (i + j) i (omega arith) l)

pub index-only : (N i j : ℕ) → index i j < triangle (suc N) → i + j ≤ N
index-only N i j h = layer-only triangle suc triangle-suc N (i + j) i (rw (index_is i j) at h)

pub index-231 : (i j : ℕ) → i + j ≤ 20 → index i j < 231
unfolding triangle
index-231 i j l = index_below 20 i j l

-- how many there are up to the order n, as the code works it out
pub count-is : (n : ℕ) → (n + 1) * (n + 2) / 2 ≡ triangle (suc n)
unfolding triangle
count-is n =
    let a : n + 1 ≡ suc n = omega arith in
    let b : n + 2 ≡ suc n + 1 = omega arith in
    ap₂ (λ (x y : ℕ). x * y / 2) a b

pub count_fits : (n : ℕ) → n ≤ 20 → (n + 1) * (n + 2) ≤ 462
count_fits n h =
    let a : n + 1 ≤ 21 = omega arith in
    let b : n + 2 ≤ 22 = omega arith in
    mul-le-mul a b

-- a jet of order N fits where one of order 20 does
pub room-231 : (N : ℕ) → N ≤ 20 → triangle (suc N) ≤ 231
unfolding triangle
room-231 N l = size_mono triangle suc triangle-suc (suc N) 21 (omega arith)

-- no two share a place
module _ (i j k l : ℕ) (e : index i j ≡ index k l) where
  same : triangle (i + j) + i ≡ triangle (k + l) + k
  same = sym (index_is i j) ∙ e ∙ index_is k l

  pub index-first : i ≡ k
  index-first = layer-place triangle suc triangle-suc (i + j) (k + l) i k (omega arith) (omega arith) same

  pub index-second : j ≡ l
  index-second = omega (arith, index-first, layer-same triangle suc triangle-suc (i + j) (k + l) i k (omega arith) (omega arith) same)

-- the entries of one total order stand side by side, i rising, after those of lower total orders
pub index-first-of : (n : ℕ) → index 0 n ≡ triangle n
unfolding index triangle
index-first-of n = omega arith

pub index-next : (i j : ℕ) → index (suc i) j ≡ suc (index i (suc j))
unfolding index
index-next i j = omega arith

-- the entry at each place
after-index : (i j : ℕ) → index (after i j).0 (after i j).1 ≡ suc (index i j)
unfolding index
after-index i zero = omega arith
after-index i (suc j) = index-next i j

pub index-place : (k : ℕ) → index (place k).0 (place k).1 ≡ k
unfolding place index
index-place zero = refl
index-place (suc k) = after-index (place k).0 (place k).1 ∙ ap suc (index-place k)

module _ (i j : ℕ) where
  pub place-first : (place (index i j)).0 ≡ i
  place-first = index-first (place (index i j)).0 (place (index i j)).1 i j (index-place (index i j))

  pub place-second : (place (index i j)).1 ≡ j
  place-second = index-second (place (index i j)).0 (place (index i j)).1 i j (index-place (index i j))

-- a place below the triangle of N + 1 is that of an entry up to the order N
pub place-order : (N k : ℕ) → k < triangle (suc N) → (place k).0 + (place k).1 ≤ N
place-order N k h = index-only N (place k).0 (place k).1 (rw (index-place k) h)
