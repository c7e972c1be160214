-- The sum over masks, by recursion on the parts; it does not mind their order.
-- Assumes nothing.
use Rattle.std.proofs.Common.{◌≡◌, refl, sym, ◌∙◌, ap, ap₂, List, [], ◌∷◌, ℕ, zero, suc, ◌+◌, ◌*◌, ◌^◌, pow-suc, zero-mul, suc-mul, add-suc, add-zero as nat-add-zero, length, ℤ}
use native.Mathlib.Nat.{pow-zero}
use lib.Arith.{digits_div, digits_mod}
use Rattle.calculus.proofs.Ints.{◌⊕◌, ◌⊗◌, sum}
use Rattle.calculus.proofs.Jets.{Curve}
use Rattle.calculus.proofs.Space.{Space, term, tensor}
use Rattle.calculus.proofs.Ring.{zero-add, add-zero, add_assoc, mul_left_comm}
use Rattle.calculus.proofs.Sums.{sum-cong, sum-linear, through-sum}
use Rattle.partitions.proofs.Out.{Out, here, there}

-- a sum over N d numbers, by the last digit in base d
sum-split : (a b : ℕ) (f : ℕ → ℤ) → sum (a + b) f ≡ sum a f ⊕ sum b (λ i. f (a + i))
unfolding sum
sum-split a zero f = ap (λ x. sum x f) (nat-add-zero a) ∙ sym (add-zero _)
sum-split a (suc b) f =
    ap (λ x. sum x f) (add-suc a b) ∙ ap (λ x. x ⊕ f (a + b)) (sum-split a b f) ∙ add_assoc _ _ _

by-digit : (N d : ℕ) (f : ℕ → ℤ) → sum (N * d) f ≡ sum N (λ m. sum d (λ k. f (m * d + k)))
unfolding sum
by-digit zero d f = ap (λ x. sum x f) (zero-mul d)
by-digit (suc N) d f = ap (λ x. sum x f) (suc-mul N d) ∙ sum-split (N * d) d f ∙ ap (λ x. x ⊕ sum d (λ k. f (N * d + k))) (by-digit N d f)

module _ (S : Space) (c : ℕ → Curve) where
  unfoldable pub T : S.Field → List ℕ → ℤ
  T s [] = S.ev s
  T s (a ∷ l) = sum S.dim (λ k. c k a ⊗ T (S.∂ k s) l)

  pub tensor-is : (s : S.Field) (l : List ℕ) → tensor S c s l ≡ T s l
  unfolding T tensor term sum
  tensor-is s [] = ap (λ N. sum N (λ m. S.ev s)) (pow-zero S.dim) ∙ zero-add (S.ev s)
  tensor-is s (a ∷ l) =
      ap (λ N. sum N (term S c s (a ∷ l))) (pow-suc S.dim (length l))
      ∙ by-digit (S.dim ^ length l) S.dim (term S c s (a ∷ l))
      ∙ sum-cong (S.dim ^ length l) (λ m h. sum-cong S.dim (λ k g.
      ap₂ (λ (x y : ℕ). c x a ⊗ term S c (S.∂ x s) l y) (digits_mod m g) (digits_div m g)))
      ∙ through-sum (sum (S.dim ^ length l)) (sum-linear (S.dim ^ length l)) S.dim (λ k m. c k a ⊗ term S c (S.∂ k s) l m)
      ∙ sum-cong S.dim (λ k g.
      (sum-linear (S.dim ^ length l)).times (c k a) (term S c (S.∂ k s) l) ∙ ap (λ x. c k a ⊗ x) (tensor-is (S.∂ k s) l))

  module _ (commute : (j k : ℕ) (s : S.Field) → S.∂ j (S.∂ k s) ≡ S.∂ k (S.∂ j s)) where
    swap : (s : S.Field) (a b : ℕ) (l : List ℕ) → T s (a ∷ b ∷ l) ≡ T s (b ∷ a ∷ l)
    unfolding T
    swap s a b l =
        sum-cong d (λ k g. sym ((sum-linear d).times (c k a) (λ j. c j b ⊗ T (S.∂ j (S.∂ k s)) l)))
        ∙ through-sum (sum d) (sum-linear d) d (λ j k. c k a ⊗ (c j b ⊗ T (S.∂ j (S.∂ k s)) l))
        ∙ sum-cong d (λ j h.
        sum-cong d (λ k g. mul_left_comm _ _ _ ∙ ap (λ x. c j b ⊗ (c k a ⊗ T x l)) (commute j k s))
        ∙ (sum-linear d).times (c j b) (λ k. c k a ⊗ T (S.∂ k (S.∂ j s)) l))
      where
        d : ℕ
        d = S.dim

    -- the recursion goes through every field, so the part that is taken out comes first
    symmetric-by : (v : ℕ) (s : S.Field) {l r : List ℕ} → Out v l r → T s l ≡ T s (v ∷ r)
    unfolding T
    symmetric-by v s here = refl
    symmetric-by v s (there {a = a} {l = l} {r = r} o) = sum-cong S.dim (λ k h. ap (λ x. c k a ⊗ x) (symmetric-by v (S.∂ k s) o)) ∙ swap s a v r

    pub symmetric : (s : S.Field) (v : ℕ) {l r : List ℕ} → Out v l r → T s l ≡ T s (v ∷ r)
    symmetric s v o = symmetric-by v s o
