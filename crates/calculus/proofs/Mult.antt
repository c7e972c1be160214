-- The multiplicity of a list of parts: the division is exact, and it splits by the part that is taken out.
-- Assumes nothing.
use Rattle.std.proofs.Common.{◌≡◌, refl, sym, ◌∙◌, ap, ap₂, List, ℕ, zero, suc, ◌+◌, ◌*◌, ◌/◌, ◌<◌, arith, mul-div_cancel, mul_comm as nat-mul-comm, ℤ, pos, negsuc, neg_ℤ, nat_abs}
use lib.IntN.{pos-ne-negsuc}
use Rattle.calculus.proofs.Ints.{◌⊗◌, sum}
use Rattle.calculus.specs.Choose.{choose}
use Rattle.partitions.specs.Parts.{total, fact, multiplicity}
use Rattle.partitions.proofs.Down.{Down}
use Rattle.partitions.proofs.Out.{Out, Pos, out-pos, out-total, out-weight, count, weight, weight-pos}
use Rattle.partitions.proofs.Mult.{binom, binom-fact, weight-divides}
use Rattle.partitions.proofs.Exact.{multiplicity-is as as-quotient}
use Rattle.calculus.proofs.Ring.{pos-mul, mul_assoc}
use Rattle.calculus.proofs.Sums.{sum-cong, sum-linear, times-right}
use Rattle.calculus.proofs.Desc.{without, without-linear}
use Rattle.calculus.proofs.Out.{without-cong, without-count, by_value}

-- (n choose i) i! j! is n!, where n is i + j
choose-is : (n k : ℕ) → choose n k ≡ binom n k
unfolding choose binom
choose-is zero zero = refl
choose-is zero (suc k) = refl
choose-is (suc n) zero = refl
choose-is (suc n) (suc k) = ap₂ (λ (x y : ℕ). x + y) (choose-is n k) (choose-is n (suc k))

choose-fact : (n i j : ℕ) → i + j ≡ n → choose n i * (fact i * fact j) ≡ fact n
choose-fact n i j e = ap (λ x. x * (fact i * fact j)) (choose-is n i) ∙ binom-fact n i j e

-- an integer that a positive number takes to f is the quotient
quotient : (z : ℤ) (w f : ℕ) → 0 < w → z ⊗ pos w ≡ pos f → z ≡ pos (f / w)
unfolding ◌⊗◌
quotient (pos q) w f h e = ap pos (sym (ap (λ m. m / w) (sym (ap nat_abs e)) ∙ mul-div_cancel q h))
quotient (negsuc q) zero f h e = absurd (omega arith)
quotient (negsuc q) (suc w) f h e = absurd (pos-ne-negsuc f (q * w + q + w) (sym e ∙ ap (λ m. neg_ℤ (pos m)) (positive q w)))
  where
    positive : (q w : ℕ) → suc q * suc w ≡ suc (q * w + q + w)
    positive q w = omega arith

unfoldable pub mult : List ℕ → ℕ
mult l = fact (total l) / weight l

-- the sum of the multiplicities of l without each of its parts
unfoldable pub split : ℕ → List ℕ → ℤ
split n l = sum (suc n) (λ w. without (suc w) l (λ r. pos (mult r) ⊗ pos (choose n w)))

mult-exact : {l : List ℕ} → Pos l → mult l * weight l ≡ fact (total l)
unfolding mult
mult-exact {l} p =
    let q = weight-divides p in
    ap (λ x. x * weight l) (ap (λ x. x / weight l) (sym q.1) ∙ mul-div_cancel q.0 (weight-pos l)) ∙ q.1

pub multiplicity-is : {m : ℕ} {l : List ℕ} → Down m l → multiplicity l ≡ mult l
unfolding mult
multiplicity-is d = as-quotient d

collect : (mr b W fw w c wr ft fn : ℕ) → W ≡ ((suc w * fw) * c) * wr → mr * wr ≡ ft → b * (fw * ft) ≡ fn → (mr * b) * W ≡ (fn * suc w) * c
collect mr b W fw w c wr ft fn h k e = ap (λ x. (mr * b) * x) h ∙ omega (arith, ap (λ x. (b * fw * suc w * c) * x) k, ap (λ x. (suc w * c) * x) e)

module _ (n : ℕ) (l : List ℕ) (p : Pos l) (t : total l ≡ suc n) where
  one_out : (w : ℕ) (r : List ℕ) → w < suc n → Out (suc w) l r →
      (pos (mult r) ⊗ pos (choose n w)) ⊗ pos (weight l) ≡ pos (fact n * suc w) ⊗ pos (count (suc w) l)
  unfolding ◌⊗◌ fact
  one_out w r h o =
      ap pos (collect (mult r) (choose n w) (weight l) (fact w) w (count (suc w) l) (weight r) (fact (total r)) (fact n)
      (out-weight o) (mult-exact (out-pos p o)) (choose-fact n w (total r) (omega (arith, out-total o))))

  whole : fact n * total l ≡ fact (total l)
  unfolding fact
  whole = ap (λ x. fact n * x) t ∙ nat-mul-comm (fact n) (suc n) ∙ ap fact (sym t)

  split-weight : split n l ⊗ pos (weight l) ≡ pos (fact (total l))
  unfolding split
  split-weight =
      sym (times-right (sum (suc n)) (sum-linear (suc n)) (λ w. without (suc w) l (λ r. pos (mult r) ⊗ pos (choose n w))) (pos (weight l)))
      ∙ sum-cong (suc n) (λ w h.
      sym (times-right (without (suc w) l) (without-linear (suc w) l) (λ r. pos (mult r) ⊗ pos (choose n w)) (pos (weight l)))
      ∙ without-cong (suc w) l (λ r o. one_out w r h o)
      ∙ without-count (suc w) l (pos (fact n * suc w))
      ∙ ap (λ x. x ⊗ pos (count (suc w) l)) (pos-mul (fact n) (suc w)) ∙ mul_assoc _ _ _)
      ∙ (sum-linear (suc n)).times (pos (fact n)) (λ w. pos (suc w) ⊗ pos (count (suc w) l))
      ∙ ap (λ x. pos (fact n) ⊗ x) (by_value (suc n) p (omega arith))
      ∙ sym (pos-mul (fact n) (total l))
      ∙ ap pos whole

  -- the multiplicity is the sum of those without each of its parts
  pub split-is : split n l ≡ pos (mult l)
  unfolding mult
  split-is = quotient (split n l) (weight l) (fact (total l)) (weight-pos l) split-weight
