-- A product or a carry over an array that a formula filled is one over the formula. Assumes nothing.
use Rattle.std.proofs.Common.{◌≡◌, refl, ◌∙◌, List, ℕ, ◌≤◌, ◌<◌, min, le_refl, arith, Float}
use Rattle.ieee_vectors.specs.declared.Vector3.{Vector3}
use Rattle.ieee_vectors.specs.Vectors.{dot, positive_zero}
use Rattle.calculus.specs.Kind.{regular}
use Rattle.calculus.specs.Array.{curve_array}
use Rattle.calculus.specs.Curve.{product, product_by}
use Rattle.calculus.specs.Carry.{composite_derivative}
use Rattle.calculus.proofs.LoopCut.{uncut}
use Rattle.calculus.proofs.UpTo.{product_by-upto, product-upto, composite_derivative-upto}
use Rattle.formulas.specs.Real.{real}
use Rattle.formulas.specs.Numbers.{curve_numbers}
use Rattle.vector_formulas.specs.Vector.{vectors, vector_numbers, vector_surface_numbers, vector_array, vector_surface_array}
use Rattle.formulas.proofs.Curves.{numbers-agree}
use Rattle.vector_formulas.proofs.Vectors.{vectors-agree, surface-agrees}

module _ (m : ℕ) (h : m ≤ 20) where
  pub dot-right : (d f : ℕ → Vector3) {e : List Float} → e ≡ vector_array f m → product_by (regular real) dot d (vector_numbers e) m ≡ product_by (regular real) dot d f m
  dot-right d f e = product_by-upto (regular real) m dot {a = d} {b = d} (λ i l. refl) (vectors-agree f m h e) m (le_refl m)

  pub dot-left : (f d : ℕ → Vector3) {e : List Float} → e ≡ vector_array f m → product_by (regular real) dot (vector_numbers e) d m ≡ product_by (regular real) dot f d m
  dot-left f d e = product_by-upto (regular real) m dot {c = d} {d = d} (vectors-agree f m h e) (λ i l. refl) m (le_refl m)

  pub product-left : (f d : ℕ → Float) {e : List Float} → e ≡ curve_array positive_zero f m → product real (curve_numbers e) d m ≡ product real f d m
  product-left f d e = product-upto real m {c = d} {d = d} (numbers-agree f m h e) (λ i l. refl) m (le_refl m)

-- a surface's derivative, worked out up to the order m and carried
pub along-derived : (m : ℕ) → m < 20 → (u v : ℕ → Float) (s : ℕ → ℕ → Vector3) {e : List Float} {r : Vector3} →
    e ≡ vector_surface_array s (min m 19) → r ≡ composite_derivative vectors u v (vector_surface_numbers e) m → r ≡ composite_derivative vectors u v s m
along-derived m h u v s {e} d c =
    let held = d ∙ uncut (vector_surface_array s) (omega arith) in
    c
    ∙ composite_derivative-upto vectors m {u = u} {v = v} {x = u} {y = v} (λ i l. refl) (λ i l. refl) (surface-agrees s m (omega arith) held) m (le_refl m)
