-- Jets that agree up to an order have the same entries and the same array. Assumes nothing.
use Rattle.std.proofs.Common.{◌≡◌, refl, sym, ap, ap₂, ◌∙◌, Bool, true, false, cond, ◌++◌, ℕ, zero, suc, ◌+◌, ◌≤◌, ◌<◌, zero-add, arith, ltb, ltb-true}
use mathlib.Core.Path.{fun_ext}
use Rattle.calculus.specs.Array.{listed, filled}
use Rattle.calculus.specs.Order.{rows, curve_entries, surface_entries}
use Rattle.calculus.proofs.LoopFilling.{listed_same}

module _ {X : Type 0} where
  pub curve-entries-same : (n : ℕ) {f g : ℕ → X} → ((m : ℕ) → m ≤ n → f m ≡ g m) → curve_entries f n ≡ curve_entries g n
  curve-entries-same n {f} {g} h = listed_same f g 0 0 (suc n) (λ x l. ap f (zero-add x) ∙ h x (omega arith) ∙ ap g (sym (zero-add x)))

  rows_same : (s t : ℕ → ℕ → X) (i k : ℕ) → ((x y : ℕ) → x + y < i + k → i ≤ x → s x y ≡ t x y) → rows s i k ≡ rows t i k
  unfolding rows
  rows_same s t i zero h = refl
  rows_same s t i (suc k) h =
      ap₂ ◌++◌ (listed_same (s i) (t i) 0 0 (suc k) (λ y l. ap (s i) (zero-add y) ∙ h i y (omega arith) (omega arith) ∙ ap (t i) (sym (zero-add y))))
      (rows_same s t (suc i) k (λ x y l b. h x y (omega arith) (omega arith)))

  pub surface-entries-same : (n : ℕ) {s t : ℕ → ℕ → X} → ((i j : ℕ) → i + j ≤ n → s i j ≡ t i j) → surface_entries s n ≡ surface_entries t n
  surface-entries-same n {s} {t} h = rows_same s t 0 (suc n) (λ x y l b. h x y (omega arith))

  pub filled-same : (w n : ℕ) (blank : X) (f g : ℕ → X) → ((k : ℕ) → k < n → f k ≡ g k) → filled w blank f n ≡ filled w blank g n
  filled-same w n blank f g h = ap (λ (r : ℕ → X). listed r 0 w) (fun_ext (λ k. go k (ltb k n) refl))
    where
      go : (k : ℕ) (t : Bool) → ltb k n ≡ t → cond t (f k) blank ≡ cond t (g k) blank
      go k true e = h k (ltb-true k n e)
      go k false e = refl
