-- Faà di Bruno's sum over the lists of parts, and its recursion: taking out one part of each list.
-- Assumes nothing.
use Rattle.std.proofs.Common.{◌≡◌, sym, ◌∙◌, ap, ap₂, cond, List, [], ◌∷◌, ℕ, zero, suc, ◌-◌, ◌≤◌, ◌<◌, arith, le_antisymm, ℤ, pos, eq-eqb, ne_eqb}
use Rattle.calculus.proofs.Ints.{◌⊕◌, ◌⊗◌, sum}
use Rattle.calculus.specs.Choose.{choose as binom}
use Rattle.partitions.specs.Parts.{total}
use Rattle.calculus.proofs.Ring.{zero-add, add-zero, zero-mul, mul_assoc}
use Rattle.calculus.proofs.Sums.{sum-cong, sum-front, sum-linear, times-right, through-sum, at_zero}
use Rattle.calculus.proofs.Binom.{leib, leib-is}
use Rattle.partitions.proofs.Tests.{by_eqb, by-leb}
use Rattle.calculus.proofs.Desc.{desc, without, of-total, reindex, desc-linear, without-linear, desc-cong, narrow, too_long}
use Rattle.partitions.proofs.Out.{Out, Pos, down_pos, out-total}
use Rattle.calculus.proofs.Out.{without-cong}
use Rattle.calculus.proofs.Mult.{mult, split, split-is}

-- the sum of f over the nonincreasing lists with the sum n
unfoldable pub faa : (List ℕ → ℤ) → ℕ → ℤ
faa f n = sum (suc n) (λ k. desc k n (of-total n f))

-- longer lists and greater parts add nothing
longer : (K m n : ℕ) (f : List ℕ → ℤ) → n ≤ K → n ≤ m → sum (suc K) (λ k. desc k m (of-total n f)) ≡ faa f n
unfolding sum faa
longer zero m n f h g = sum-cong 1 (λ k l. narrow k m n f g) ∙ ap (λ x. sum (suc x) (λ k. desc k n (of-total n f))) zero_is
  where
    zero_is : 0 ≡ n
    zero_is = omega arith
longer (suc K) m n f h g =
    by-leb (suc K) n (λ b. sum (suc (suc K)) (λ k. desc k m (of-total n f)) ≡ faa f n)
    (λ l. sum-cong (suc (suc K)) (λ k i. narrow k m n f g) ∙ ap (λ x. sum (suc x) (λ k. desc k n (of-total n f))) (le_antisymm l h))
    (λ l. ap₂ (λ x y. x ⊕ y) (longer K m n f (omega arith) g) (too_long (suc K) m n f l) ∙ add-zero _)

-- T does not mind the order of the parts
module _ (T : List ℕ → ℤ) (symm : (v : ℕ) (l r : List ℕ) → Out v l r → T l ≡ T (v ∷ r)) (n : ℕ) where
  -- what taking out w + 1 leaves
  rest : ℕ → List ℕ → ℤ
  rest w r = T (suc w ∷ r) ⊗ pos (mult r)

  one-part : ℕ → List ℕ → ℤ
  one-part w r = of-total (n - w) (rest w) r ⊗ pos (binom n w)

  at-list : (l : List ℕ) → Pos l → of-total (suc n) (λ l. T l ⊗ pos (mult l)) l ≡ sum (suc n) (λ w. without (suc w) l (one-part w))
  unfolding one-part rest split
  at-list l p =
      by_eqb (total l) (suc n) (λ b. cond b (T l ⊗ pos (mult l)) (pos 0) ≡ sum (suc n) (λ w. without (suc w) l (one-part w)))
      (λ t. sym (sum-cong (suc n) (λ w h.
      without-cong (suc w) l (λ r o.
      ap (λ b. cond b (T (suc w ∷ r) ⊗ pos (mult r)) (pos 0) ⊗ pos (binom n w)) (eq-eqb (total r) (n - w) (omega (arith, out-total o)))
      ∙ ap (λ x. (x ⊗ pos (mult r)) ⊗ pos (binom n w)) (sym (symm (suc w) l r o)) ∙ mul_assoc _ _ _)
      ∙ (without-linear (suc w) l).times (T l) (λ r. pos (mult r) ⊗ pos (binom n w)))
      ∙ (sum-linear (suc n)).times (T l) (λ w. without (suc w) l (λ r. pos (mult r) ⊗ pos (binom n w)))
      ∙ ap (λ x. T l ⊗ x) (split-is n l p t)))
      (λ t. sym (sum-cong (suc n) (λ w h.
      without-cong (suc w) l (λ r o.
      ap (λ b. cond b (T (suc w ∷ r) ⊗ pos (mult r)) (pos 0) ⊗ pos (binom n w)) (ne_eqb (total r) (n - w) (λ e. omega (arith, out-total o)))
      ∙ zero-mul _)
      ∙ at_zero (without (suc w) l) (without-linear (suc w) l))
      ∙ at_zero (sum (suc n)) (sum-linear (suc n))))

  by_length : (k : ℕ) → desc (suc k) (suc n) (of-total (suc n) (λ l. T l ⊗ pos (mult l))) ≡ sum (suc n) (λ w. desc k (suc n) (one-part w))
  by_length k =
      desc-cong (suc k) (suc n) (λ l d e. at-list l (down_pos d))
      ∙ through-sum (desc (suc k) (suc n)) (desc-linear (suc k) (suc n)) (suc n) (λ w l. without (suc w) l (one-part w))
      ∙ sum-cong (suc n) (λ w h. reindex k (suc n) w (one-part w) h)

  by_part : (w : ℕ) → w < suc n → sum (suc n) (λ k. desc k (suc n) (one-part w)) ≡ faa (rest w) (n - w) ⊗ pos (binom n w)
  unfolding one-part
  by_part w h =
      sum-cong (suc n) (λ k g. times-right (desc k (suc n)) (desc-linear k (suc n)) (of-total (n - w) (rest w)) (pos (binom n w)))
      ∙ times-right (sum (suc n)) (sum-linear (suc n)) (λ k. desc k (suc n) (of-total (n - w) (rest w))) (pos (binom n w))
      ∙ ap (λ x. x ⊗ pos (binom n w)) (longer n (suc n) (n - w) (rest w) (omega arith) (omega arith))

  key-sum : faa (λ l. T l ⊗ pos (mult l)) (suc n) ≡ sum (suc n) (λ w. faa (rest w) (n - w) ⊗ pos (binom n w))
  unfolding faa desc total
  key-sum =
      sum-front (suc n) (λ k. desc k (suc n) (of-total (suc n) (λ l. T l ⊗ pos (mult l))))
      ∙ ap (λ b. cond b (T [] ⊗ pos (mult [])) (pos 0) ⊕ sum (suc n) (λ k. desc (suc k) (suc n) (of-total (suc n) (λ l. T l ⊗ pos (mult l))))) (ne_eqb 0 (suc n) (λ e. omega arith))
      ∙ zero-add _
      ∙ sum-cong (suc n) (λ k h. by_length k)
      ∙ through-sum (sum (suc n)) (sum-linear (suc n)) (suc n) (λ w k. desc k (suc n) (one-part w))
      ∙ sum-cong (suc n) by_part

  pub key : faa (λ l. T l ⊗ pos (mult l)) (suc n) ≡ leib (λ w j. faa (λ r. T (suc w ∷ r) ⊗ pos (mult r)) j) n
  unfolding rest
  key = key-sum ∙ leib-is (λ w j. faa (rest w) j) n
