-- The entries that are left in the order of work: a curve's from m on, and a surface's from [i][j] on. Assumes nothing.
use Rattle.std.proofs.Common.{◌≡◌, refl, sym, ap, ap₂, ◌∙◌, List, [], ◌∷◌, ◌++◌, ℕ, zero, suc, ◌+◌, ◌-◌, ◌≤◌, ◌<◌, add-one, arith}
use Rattle.calculus.specs.Array.{listed}
use Rattle.calculus.specs.Order.{rows, curve_entries, surface_entries}

-- ---- a curve's entries from m on, up to the order n
module _ {X : Type 0} (f : ℕ → X) (n : ℕ) where
  abbrev pub curve_left : ℕ → List X
  curve_left m = listed f m (suc n - m)

  pub curve-start : curve_entries f n ≡ curve_left 0
  curve-start =
      let e : suc n ≡ suc n - 0 = omega arith in
      ap (listed f 0) e

  pub curve-next : (m : ℕ) → m ≤ n → curve_left m ≡ f m ∷ curve_left (m + 1)
  unfolding listed
  curve-next m h =
      let e : suc n - m ≡ suc (suc n - (m + 1)) = omega arith in
      ap (listed f m) e ∙ ap (λ (k : ℕ). f m ∷ listed f k (suc n - (m + 1))) (sym (add-one m))

  pub curve-end : {m : ℕ} → n < m → curve_left m ≡ []
  unfolding listed
  curve-end {m} h =
      let e : suc n - m ≡ 0 = omega arith in
      ap (listed f m) e

-- ---- a surface's entries from [i][j] on, up to the order n; past the last one, [n + 1][0]
abbrev pub Inside : ℕ → ℕ → ℕ → Type 0
Inside n i j = (i + j ≤ suc n) × (i ≤ n → i + j ≤ n)

module _ {X : Type 0} (s : ℕ → ℕ → X) (n : ℕ) where
  abbrev pub surface_left : ℕ → ℕ → List X
  surface_left i j = listed (s i) j (suc n - (i + j)) ++ rows s (suc i) (n - i)

  pub surface-start : surface_entries s n ≡ surface_left 0 0
  unfolding rows
  surface-start =
      let e : suc n ≡ suc n - (0 + 0) = omega arith in
      let k : n ≡ n - 0 = omega arith in
      ap₂ (λ (x y : ℕ). listed (s 0) 0 x ++ rows s 1 y) e k

  pub surface-next : (i j : ℕ) → i + j ≤ n → surface_left i j ≡ s i j ∷ surface_left i (j + 1)
  unfolding listed
  surface-next i j h =
      let e : suc n - (i + j) ≡ suc (suc n - (i + (j + 1))) = omega arith in
      ap (λ (k : ℕ). listed (s i) j k ++ rows s (suc i) (n - i)) e
      ∙ ap (λ (k : ℕ). s i j ∷ (listed (s i) k (suc n - (i + (j + 1))) ++ rows s (suc i) (n - i))) (sym (add-one j))

  pub surface-row : (i j : ℕ) → n < i + j → surface_left i j ≡ surface_left (i + 1) 0
  unfolding listed rows
  surface-row i j h =
      let e : suc n - (i + j) ≡ 0 = omega arith in
      ap (λ (k : ℕ). listed (s i) j k ++ rows s (suc i) (n - i)) e ∙ go (n - i) refl
    where
      go : (k : ℕ) → n - i ≡ k → rows s (suc i) (n - i) ≡ surface_left (i + 1) 0
      go zero q =
          let p : suc n - (i + 1 + 0) ≡ 0 = omega arith in
          let r : n - (i + 1) ≡ 0 = omega arith in
          ap (rows s (suc i)) q ∙ sym (ap₂ (λ (x y : ℕ). listed (s (i + 1)) 0 x ++ rows s (suc (i + 1)) y) p r)
      go (suc k) q =
          let p : suc n - (i + 1 + 0) ≡ suc k = omega arith in
          let r : n - (i + 1) ≡ k = omega arith in
          ap (rows s (suc i)) q ∙ ap (λ (x : ℕ). listed (s x) 0 (suc k) ++ rows s (suc x) k) (sym (add-one i))
          ∙ sym (ap₂ (λ (x y : ℕ). listed (s (i + 1)) 0 x ++ rows s (suc (i + 1)) y) p r)

  pub surface-end : {i : ℕ} → n < i → surface_left i 0 ≡ []
  unfolding listed rows
  surface-end {i} h =
      let e : suc n - (i + 0) ≡ 0 = omega arith in
      let k : n - i ≡ 0 = omega arith in
      ap₂ (λ (x y : ℕ). listed (s i) 0 x ++ rows s (suc i) y) e k
