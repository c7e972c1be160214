-- The products of jets of one, two and three variables, written out as sums with binomials, are those of Leibniz's recursion.
-- Assumes nothing.
use Rattle.std.proofs.Common.{◌≡◌, refl, sym, ◌∙◌, ap, ap₂, ℕ, zero, suc, ◌-◌, ℤ, pos}
use mathlib.Core.Path.{fun_ext}
use Rattle.calculus.proofs.Ints.{◌⊕◌, ◌⊗◌, sum}
use Rattle.calculus.specs.Choose.{choose as binom}
use Rattle.calculus.proofs.Jets.{Curve, Surface, Solid, curve_mul, surface_mul, solid_mul}
use Rattle.calculus.proofs.Jet.{Jet}
use Rattle.calculus.proofs.Ring.{mul_assoc, mul_comm}
use Rattle.calculus.proofs.Sums.{sum-cong, sum-linear, times-right}
use Rattle.calculus.proofs.Binom.{leib, leib-is}
use Rattle.calculus.proofs.Fields.{plus, leib_j, times}

leib_j-is : (X : ℕ → ℕ → ℤ) (m : ℕ) → leib X m ≡ leib_j 0 X m
unfolding leib
leib_j-is X zero = refl
leib_j-is X (suc m) = ap₂ (λ x y. x ⊕ y) (leib_j-is (λ i j. X (suc i) j) m) (leib_j-is (λ i j. X i (suc j)) m)

leib_j-at : (d : ℕ) (X : ℕ → ℕ → Jet (suc d)) (m n : ℕ) → leib_j d (λ i j. X i j n) m ≡ leib_j (suc d) X m n
leib_j-at d X zero n = refl
leib_j-at d X (suc m) n = ap₂ (plus d) (leib_j-at d (λ i j. X (suc i) j) m n) (leib_j-at d (λ i j. X i (suc j)) m n)

apart : (x p q : ℤ) → x ⊗ (p ⊗ q) ≡ (x ⊗ q) ⊗ p
apart x p q = ap (λ y. x ⊗ y) (mul_comm p q) ∙ sym (mul_assoc x q p)

pub curve-times : (a b : Curve) → curve_mul a b ≡ times 1 a b
unfolding curve_mul
curve-times a b = fun_ext (λ m. leib-is (λ i j. a i ⊗ b j) m ∙ leib_j-is (λ i j. a i ⊗ b j) m)

pub surface-times : (a b : Surface) → surface_mul a b ≡ times 2 a b
unfolding surface_mul
surface-times a b = fun_ext (λ m. fun_ext (λ n.
    sum-cong (suc m) (λ i h.
    sum-cong (suc n) (λ j g. apart _ _ _)
    ∙ times-right (sum (suc n)) (sum-linear (suc n)) (λ j. (a i j ⊗ b (m - i) (n - j)) ⊗ pos (binom n j)) (pos (binom m i))
    ∙ ap (λ x. x ⊗ pos (binom m i)) (leib-is (λ j l. a i j ⊗ b (m - i) l) n ∙ leib_j-is (λ j l. a i j ⊗ b (m - i) l) n))
    ∙ leib-is (λ i k. times 1 (a i) (b k) n) m
    ∙ leib_j-is (λ i k. times 1 (a i) (b k) n) m
    ∙ leib_j-at 0 (λ i k. times 1 (a i) (b k)) m n))

pub solid-times : (a b : Solid) → solid_mul a b ≡ times 3 a b
unfolding solid_mul surface_mul
solid-times a b = fun_ext (λ m. fun_ext (λ n. fun_ext (λ o.
    sum-cong (suc m) (λ i h.
    sum-cong (suc n) (λ j g.
    sum-cong (suc o) (λ k f. apart _ _ _)
    ∙ times-right (sum (suc o)) (sum-linear (suc o)) (λ k. (a i j k ⊗ b (m - i) (n - j) (o - k)) ⊗ (pos (binom n j) ⊗ pos (binom o k))) (pos (binom m i)))
    ∙ times-right (sum (suc n)) (sum-linear (suc n)) (λ j. sum (suc o) (λ k. (a i j k ⊗ b (m - i) (n - j) (o - k)) ⊗ (pos (binom n j) ⊗ pos (binom o k)))) (pos (binom m i))
    ∙ ap (λ (x : Surface). x n o ⊗ pos (binom m i)) (surface-times (a i) (b (m - i))))
    ∙ leib-is (λ i k. times 2 (a i) (b k) n o) m
    ∙ leib_j-is (λ i k. times 2 (a i) (b k) n o) m
    ∙ leib_j-at 0 (λ i k. times 2 (a i) (b k) n) m o
    ∙ ap (λ (x : Curve). x o) (leib_j-at 1 (λ i k. times 2 (a i) (b k)) m n))))
