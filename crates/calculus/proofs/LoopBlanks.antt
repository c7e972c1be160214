-- What is read past a list's end does not matter where nothing is read there. Assumes nothing.
use Rattle.std.proofs.Common.{◌≡◌, refl, List, ℕ, zero, suc, ◌+◌, ◌*◌, ◌≤◌, arith, length, get_or}
use Rattle.std.proofs.lemmas.List.{get_or_default}
use Rattle.calculus.specs.Graded.{triangle, index, place, graded}
use Rattle.calculus.specs.Array.{curve_array, surface_array}
use Rattle.calculus.specs.Surface.{derivative_u, derivative_v}
use Rattle.calculus.specs.Order.{surface_entries, pairs, list_place}
use Rattle.calculus.proofs.Graded.{place-order, index-231}
use Rattle.calculus.proofs.Same.{filled-same, surface-entries-same}
use Rattle.calculus.proofs.LoopPlaces.{numbers_in, surface_in, list-place}

module _ {X : Type 0} where
  -- what was read at k, of the place k
  pub read-at : (blank : X) (l : List X) {v : X} {k i : ℕ} → v ≡ get_or l k blank → k ≡ i → v ≡ get_or l i blank
  read-at blank l e p = rw (e, p)

  surface-same : (blank : X) (n : ℕ) {s t : ℕ → ℕ → X} → ((i j : ℕ) → i + j ≤ n → s i j ≡ t i j) → surface_array blank s n ≡ surface_array blank t n
  surface-same blank n {s} {t} h = filled-same 231 (triangle (suc n)) blank (graded s) (graded t) (λ k l. h (place k).0 (place k).1 (place-order n k l))

  module _ (blank d e : X) (l : List X) (n : ℕ) where
    -- ---- a surface's list, and its array
    pub read-blanks : length l ≡ triangle (suc n) →
        surface_array blank (λ i j. get_or l (list_place n i j) d) n ≡ surface_array blank (λ i j. get_or l (list_place n i j) e) n
    read-blanks h = surface-same blank n (λ i j b. get_or_default l (list_place n i j) d e (omega (arith, h, list-place n i j b)))

    module _ (h : length l ≡ 231) where
      at_entry : (i j : ℕ) → i + j ≤ 20 → surface_in d l i j ≡ surface_in e l i j
      at_entry i j b = get_or_default l (index i j) d e (omega (arith, h, index-231 i j b))

      pub entries-blanks : n ≤ 20 → surface_entries (surface_in d l) n ≡ surface_entries (surface_in e l) n
      entries-blanks b = surface-entries-same n (λ i j c. at_entry i j (omega arith))

      pub u-blanks : n ≤ 19 → surface_array blank (derivative_u (surface_in d l)) n ≡ surface_array blank (derivative_u (surface_in e l)) n
      u-blanks b = surface-same blank n (λ i j c. at_entry (suc i) j (omega arith))

      pub v-blanks : n ≤ 19 → surface_array blank (derivative_v (surface_in d l)) n ≡ surface_array blank (derivative_v (surface_in e l)) n
      v-blanks b = surface-same blank n (λ i j c. at_entry i (suc j) (omega arith))

    -- ---- every other number of a list
    pub odd-blanks : length l ≡ 2 * suc n → curve_array blank (λ m. get_or l (2 * m + 1) d) n ≡ curve_array blank (λ m. get_or l (2 * m + 1) e) n
    odd-blanks h = filled-same 21 (suc n) blank (λ m. get_or l (2 * m + 1) d) (λ m. get_or l (2 * m + 1) e) (λ m c. get_or_default l (2 * m + 1) d e (omega (arith, h, c)))

    pub even-blanks : length l ≡ 2 * suc n → curve_array blank (λ m. get_or l (2 * m) d) n ≡ curve_array blank (λ m. get_or l (2 * m) e) n
    even-blanks h = filled-same 21 (suc n) blank (λ m. get_or l (2 * m) d) (λ m. get_or l (2 * m) e) (λ m c. get_or_default l (2 * m) d e (omega (arith, h, c)))

  -- ---- u and v side by side
  pub pairs-blanks : (d e : X) (u v : List X) (i k : ℕ) → i + k ≤ length u → i + k ≤ length v → pairs (numbers_in d u) (numbers_in d v) i k ≡ pairs (numbers_in e u) (numbers_in e v) i k
  unfolding pairs
  pairs-blanks d e u v i zero a b = refl
  pairs-blanks d e u v i (suc k) a b =
      rw (get_or_default u i d e (omega (arith, a)), get_or_default v i d e (omega (arith, b)), pairs-blanks d e u v (suc i) k (omega (arith, a)) (omega (arith, b)))
