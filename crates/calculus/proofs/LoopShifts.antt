-- The entries of a surface, one place on by u or by v, are those of its derivative. Assumes nothing.
use Rattle.std.proofs.Common.{◌≡◌, ap₂, ℕ, ◌+◌, add-zero, add-one}
use mathlib.Core.Path.{fun_ext}
use Rattle.calculus.specs.Surface.{derivative_u, derivative_v}

module _ {A : Type 0} (s : ℕ → ℕ → A) where
  pub u-entries : (λ i j. s (i + 1) (j + 0)) ≡ derivative_u s
  u-entries = fun_ext (λ i. fun_ext (λ j. ap₂ (λ (x y : ℕ). s x y) (add-one i) (add-zero j)))

  pub v-entries : (λ i j. s (i + 0) (j + 1)) ≡ derivative_v s
  v-entries = fun_ext (λ i. fun_ext (λ j. ap₂ (λ (x y : ℕ). s x y) (add-zero i) (add-one j)))
