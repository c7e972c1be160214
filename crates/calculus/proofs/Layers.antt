-- Numbering by layers: layer n has count n places, after all places of the layers below it. One law for any number of variables: a layer
-- holds the entries of one total order, numbered among themselves as the entries of one variable less. Assumes nothing.
use Rattle.std.proofs.Common.{◌≡◌, sym, ap, ℕ, zero, suc, ◌+◌, ◌-◌, ◌≤◌, ◌<◌, le_refl, lt_irrefl, add-zero, add-suc, arith}
use native.Mathlib.Decide.{dec_le}

module _ (size count : ℕ → ℕ) (step : (n : ℕ) → size (suc n) ≡ size n + count n) where
  size-rises : (k m : ℕ) → size m ≤ size (m + k)
  size-rises zero m = rw add-zero (le_refl (size m))
  size-rises (suc k) m = rw add-suc (omega (arith, size-rises k m, step (m + k)))

  pub size_mono : (m n : ℕ) → m ≤ n → size m ≤ size n
  size_mono m n h =
      let e : m + (n - m) ≡ n = omega arith in
      rw e at (size-rises (n - m) m)

  -- the places of the layers up to N are those below size (N + 1)
  pub layer_below : (N n x : ℕ) → x < count n → n ≤ N → size n + x < size (suc N)
  layer_below N n x h l = omega (arith, size_mono (suc n) (suc N) (omega arith), step n)

  pub layer-only : (N n x : ℕ) → size n + x < size (suc N) → n ≤ N
  layer-only N n x h = go (dec_le n N)
    where
      go : Dec (n ≤ N) → n ≤ N
      go (yes l) = l
      go (no l) = absurd (lt_irrefl (size n + x) (omega (arith, size_mono (suc N) n (omega arith))))

  -- no two share a place
  apart : (m n x y : ℕ) → x < count m → size m + x ≡ size n + y → ¬ (m < n)
  apart m n x y h e l = lt_irrefl (size n) (omega (arith, size_mono (suc m) n l, step m))

  pub layer-same : (m n x y : ℕ) → x < count m → y < count n → size m + x ≡ size n + y → m ≡ n
  layer-same m n x y h k e =
      let p = apart m n x y h e in
      let q = apart n m y x k (sym e) in
      omega arith

  pub layer-place : (m n x y : ℕ) → x < count m → y < count n → size m + x ≡ size n + y → x ≡ y
  layer-place m n x y h k e = omega (arith, ap size (layer-same m n x y h k e))
