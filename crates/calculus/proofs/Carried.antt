-- Carrying is linear and follows the chain rule: its derivative is the sum of each coordinate's times the partial derivative carried.
-- Assumes nothing.
use Rattle.std.proofs.Common.{◌≡◌, refl, sym, ◌∙◌, ap, ap₂, cond, List, [], ◌∷◌, ℕ, zero, suc, arith, eqb, ℤ, pos, ne_eqb}
use mathlib.Core.Path.{fun_ext}
use Rattle.calculus.proofs.Ints.{◌⊕◌, ◌⊗◌, sum}
use Rattle.calculus.proofs.Jets.{Curve}
use Rattle.partitions.specs.Parts.{total, fact, multiplicity}
use Rattle.calculus.proofs.Space.{Space, tensor, carry}
use Rattle.calculus.proofs.Ring.{zero-add, mul-zero, mul-one, mul_assoc}
use Rattle.calculus.proofs.Sums.{sum-cong, sum-front, sum-linear, through-sum, times-right, Linear}
use Rattle.calculus.proofs.Binom.{leib, leib-linear, leib-cong}
use Rattle.calculus.proofs.Curves.{◌·◌, D}
use Rattle.partitions.proofs.Tests.{by_eqb}
use Rattle.calculus.proofs.Desc.{desc, of-total, desc-linear, desc-cong, over-parts}
use Rattle.partitions.proofs.Out.{weight}
use Rattle.calculus.proofs.Mult.{mult, multiplicity-is}
use Rattle.calculus.proofs.Faa.{faa, key}
use Rattle.calculus.proofs.Tensor.{T, tensor-is, symmetric}

-- the sum over the lists of parts is linear
of-total-plus : (n : ℕ) (f g : List ℕ → ℤ) (l : List ℕ) → of-total n (λ l. f l ⊕ g l) l ≡ of-total n f l ⊕ of-total n g l
of-total-plus n f g l = by_eqb (total l) n (λ b. cond b (f l ⊕ g l) (pos 0) ≡ cond b (f l) (pos 0) ⊕ cond b (g l) (pos 0)) (λ e. refl) (λ e. sym (zero-add (pos 0)))

of-total-times : (n : ℕ) (c : ℤ) (f : List ℕ → ℤ) (l : List ℕ) → of-total n (λ l. c ⊗ f l) l ≡ c ⊗ of-total n f l
of-total-times n c f l = by_eqb (total l) n (λ b. cond b (c ⊗ f l) (pos 0) ≡ c ⊗ cond b (f l) (pos 0)) (λ e. refl) (λ e. sym (mul-zero c))

pub faa-linear : (n : ℕ) → Linear (λ f. faa f n)
unfolding faa
faa-linear n = record {
  plus = λ f g.
      sum-cong (suc n) (λ k h. ap (desc k n) (fun_ext (of-total-plus n f g)) ∙ (desc-linear k n).plus (of-total n f) (of-total n g))
      ∙ (sum-linear (suc n)).plus (λ k. desc k n (of-total n f)) (λ k. desc k n (of-total n g));
  times = λ c f.
      sum-cong (suc n) (λ k h. ap (desc k n) (fun_ext (of-total-times n c f)) ∙ (desc-linear k n).times c (of-total n f))
      ∙ (sum-linear (suc n)).times c (λ k. desc k n (of-total n f));
}

module _ (S : Space) (c : ℕ → Curve) where
  -- what is summed over the lists of parts
  unfoldable pub summand : S.Field → List ℕ → ℤ
  summand s l = T S c s l ⊗ pos (mult l)

  pub carry-is : (s : S.Field) (n : ℕ) → carry S c s n ≡ faa (summand s) n
  unfolding carry faa sum desc total T mult weight fact summand
  carry-is s zero = sym (zero-add _ ∙ mul-one (S.ev s))
  carry-is s (suc n) =
      sum-cong (suc n) (λ k h.
      over-parts (suc k) (suc n) (suc n) (λ l. tensor S c s l ⊗ pos (multiplicity l))
      ∙ desc-cong (suc k) (suc n) (λ l d e.
      ap₂ (λ (x : ℤ) (m : ℕ). cond (eqb (total l) (suc n)) (x ⊗ pos m) (pos 0)) (tensor-is S c s l) (multiplicity-is d)))
      ∙ sym (sum-front (suc n) (λ k. desc k (suc n) (of-total (suc n) (summand s)))
      ∙ ap (λ b. cond b (summand s []) (pos 0) ⊕ sum (suc n) (λ k. desc (suc k) (suc n) (of-total (suc n) (summand s)))) (ne_eqb 0 (suc n) (λ e. omega arith))
      ∙ zero-add _)

  module _ (commute : (j k : ℕ) (s : S.Field) → S.∂ j (S.∂ k s) ≡ S.∂ k (S.∂ j s)) where
    -- one part taken out: which variable it derives by
    by-variable : (s : S.Field) (w n : ℕ) → faa (λ r. T S c s (suc w ∷ r) ⊗ pos (mult r)) n ≡ sum S.dim (λ k. c k (suc w) ⊗ carry S c (S.∂ k s) n)
    unfolding T summand
    by-variable s w n =
        ap (λ f. faa f n) (fun_ext (λ r.
        sym (times-right (sum S.dim) (sum-linear S.dim) (λ k. c k (suc w) ⊗ T S c (S.∂ k s) r) (pos (mult r)))
        ∙ sum-cong S.dim (λ k h. mul_assoc _ _ _)))
        ∙ through-sum (λ f. faa f n) (faa-linear n) S.dim (λ k r. c k (suc w) ⊗ summand (S.∂ k s) r)
        ∙ sum-cong S.dim (λ k h. (faa-linear n).times (c k (suc w)) (summand (S.∂ k s)) ∙ ap (λ x. c k (suc w) ⊗ x) (sym (carry-is (S.∂ k s) n)))

    pub chain : (s : S.Field) (n : ℕ) → carry S c s (suc n) ≡ sum S.dim (λ k. (D (c k) · carry S c (S.∂ k s)) n)
    unfolding summand ◌·◌
    chain s n =
        carry-is s (suc n)
        ∙ key (T S c s) (λ v l r o. symmetric S c commute s v o) n
        ∙ leib-cong n (λ w j e. by-variable s w j)
        ∙ through-sum (λ f. leib (λ i j. f (i, j)) n) (leib-linear n) S.dim (λ k p. c k (suc p.0) ⊗ carry S c (S.∂ k s) p.1)
