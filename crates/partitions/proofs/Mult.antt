-- The weight of a list of positive parts divides the factorial of its sum.
-- Assumes nothing.
use Rattle.std.proofs.Common.{◌≡◌, refl, sym, ◌∙◌, ap, ◌⊎◌, inl, inr, List, ◌∷◌, ℕ, zero, suc, ◌+◌, ◌*◌, ◌<◌, arith, mul_comm, length}
use Rattle.partitions.specs.Parts.{total, fact}
use Rattle.partitions.proofs.Out.{Out, Pos, empty, more, out-pos, out-length, out-total, out-weight, count, weight, none-or-out, by_value, divides-sum}

-- n choose k
unfoldable pub binom : ℕ → ℕ → ℕ
binom zero zero = 1
binom zero (suc k) = 0
binom (suc n) zero = 1
binom (suc n) (suc k) = binom n k + binom n (suc k)

binom-above : (n k : ℕ) → n < k → binom n k ≡ 0
unfolding binom
binom-above zero zero h = omega arith
binom-above zero (suc k) h = refl
binom-above (suc n) zero h = omega arith
binom-above (suc n) (suc k) h = let p = binom-above n k (omega arith) in let q = binom-above n (suc k) (omega arith) in omega arith

-- (n choose i) i! j! is n!, where n is i + j
last_row : (b c i n f g : ℕ) → c ≡ 0 → b * (f * 1) ≡ g → i ≡ n → (b + c) * ((suc i * f) * 1) ≡ suc n * g
last_row b c i n f g h k e = ap (λ z. (b + z) * ((suc i * f) * 1)) h ∙ omega (arith, ap (λ x. suc i * x) k, ap (λ x. suc x * g) e)

next_row : (b c i j n f g s : ℕ) → b * (f * (suc j * g)) ≡ s → c * ((suc i * f) * g) ≡ s → suc i + suc j ≡ suc n → (b + c) * ((suc i * f) * (suc j * g)) ≡ suc n * s
next_row b c i j n f g s h k e = omega (arith, ap (λ x. suc i * x) h, ap (λ x. suc j * x) k, ap (λ x. x * s) e)

pub binom-fact : (n i j : ℕ) → i + j ≡ n → binom n i * (fact i * fact j) ≡ fact n
unfolding binom fact
binom-fact zero zero zero e = refl
binom-fact zero zero (suc j) e = absurd (omega arith)
binom-fact zero (suc i) j e = absurd (omega arith)
binom-fact (suc n) zero j e = let q : j ≡ suc n = omega arith in ap (λ m. 1 * (1 * fact m)) q ∙ omega arith
binom-fact (suc n) (suc i) zero e =
    last_row (binom n i) (binom n (suc i)) i n (fact i) (fact n) (binom-above n (suc i) (omega arith)) (binom-fact n i 0 (omega arith)) (omega arith)
binom-fact (suc n) (suc i) (suc j) e =
    next_row (binom n i) (binom n (suc i)) i j n (fact i) (fact j) (fact n) (binom-fact n i (suc j) (omega arith)) (binom-fact n (suc i) j (omega arith)) e

Divides : List ℕ → Type 0
Divides l = (q : ℕ) × (q * weight l ≡ fact (total l))

collect : (mr b W fw w c wr ft fn : ℕ) → W ≡ ((suc w * fw) * c) * wr → mr * wr ≡ ft → b * (fw * ft) ≡ fn → (mr * b) * W ≡ fn * (suc w * c)
collect mr b W fw w c wr ft fn h k e = ap (λ x. (mr * b) * x) h ∙ omega (arith, ap (λ x. (b * fw * suc w * c) * x) k, ap (λ x. (suc w * c) * x) e)

nothing : (W f v c : ℕ) → c ≡ 0 → 0 * W ≡ f * (v * c)
nothing W f v c z = sym (ap (λ x. f * (v * x)) z ∙ omega arith)

-- n! (n + 1) is the sum, over the values w + 1, of n! (w + 1) as often as w + 1 stands there; the weight divides each term
module _ (n : ℕ) (l : List ℕ) (p : Pos l) (t : total l ≡ suc n) (ex : (v : ℕ) (r : List ℕ) → Out v l r → Divides r) where
  term : (w : ℕ) → w < suc n → (q : ℕ) × (q * weight l ≡ fact n * (suc w * count (suc w) l))
  unfolding Divides fact
  term w h = by (none-or-out (suc w) l)
    where
      by : (count (suc w) l ≡ 0) ⊎ ((r : List ℕ) × Out (suc w) l r) → (q : ℕ) × (q * weight l ≡ fact n * (suc w * count (suc w) l))
      by (inl z) = (0, nothing (weight l) (fact n) (suc w) (count (suc w) l) z)
      by (inr o) =
          let i = ex (suc w) o.0 o.1 in (
            i.0 * binom n w,
            collect i.0 (binom n w) (weight l) (fact w) w (count (suc w) l) (weight o.0) (fact (total o.0)) (fact n)
                (out-weight o.1) i.1 (binom-fact n w (total o.0) (omega (arith, out-total o.1))),
          )

  all : Divides l
  unfolding Divides fact
  all =
      let s = divides-sum (suc n) (fact n) (weight l) (λ w. suc w * count (suc w) l) term in
      (s.0, s.1 ∙ ap (λ x. fact n * x) (by_value (suc n) p (omega arith) ∙ t) ∙ mul_comm (fact n) (suc n) ∙ ap fact (sym t))

divides : (k : ℕ) {l : List ℕ} → Pos l → length l ≡ k → Divides l
unfolding total fact weight Divides
divides zero empty e = (1, refl)
divides zero (more p) e = absurd (omega arith)
divides (suc k) empty e = absurd (omega arith)
divides (suc k) (more {a = a} {l = l} p) e =
    all (a + total l) (suc a ∷ l) (more p) (omega arith) (λ v r o. divides k (out-pos (more p) o) (omega (arith, out-length o)))

pub weight-divides : {l : List ℕ} → Pos l → (q : ℕ) × (q * weight l ≡ fact (total l))
unfolding Divides
weight-divides {l} p = divides (length l) p refl
