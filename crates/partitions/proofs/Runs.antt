-- The factorials of the parts and of the runs of equal parts make the weight, at nonincreasing lists; and the runs' bounds.
-- Assumes nothing.
use Rattle.std.proofs.Common.{◌≡◌, refl, sym, ◌∙◌, ap, ap₂, subst, cond, List, [], ◌∷◌, ℕ, zero, suc, ◌+◌, ◌*◌, ◌≤◌, ◌<◌, arith, length, get_or, one-add, add-zero, ne_eqb}
use native.Mathlib.Nat.{eq_of_mul-eq-mul_right}
use Rattle.partitions.specs.Parts.{fact, runs_from, runs}
use Rattle.partitions.proofs.Tests.{by_eqb}
use Rattle.partitions.proofs.Down.{Down, none, one}
use Rattle.partitions.proofs.Out.{count, weight, fact-pos}

-- the product of the factorials, and of the counts of each part among those from it on
unfoldable pub facts : List ℕ → ℕ
facts [] = 1
facts (a ∷ l) = fact a * facts l

counts : List ℕ → ℕ
counts [] = 1
counts (a ∷ l) = suc (count a l) * counts l

weight_is : (l : List ℕ) → facts l * counts l ≡ weight l
unfolding facts counts weight
weight_is [] = refl
weight_is (a ∷ l) = omega (arith, ap (λ x. (fact a * suc (count a l)) * x) (weight_is l))

count-above : {m : ℕ} {l : List ℕ} (v : ℕ) → Down m l → m < v → count v l ≡ 0
unfolding count
count-above v none h = refl
count-above v (one {a = a} {l = l} g d) h =
    ap (λ b. cond b 1 0 + count v l) (ne_eqb (suc a) v (λ e. omega arith)) ∙ ap (λ x. 0 + x) (count-above v d (omega arith))

first_run : (p c r : ℕ) → p * fact c ≡ fact (1 + c) * r → p ≡ suc c * r
unfolding fact
first_run p c r e = eq_of_mul-eq-mul_right (fact c) (fact-pos c) p (suc c * r) (e ∙ ap (λ x. fact x * r) (one-add c) ∙ omega arith)

run_on : (p c k r f : ℕ) → p * fact c ≡ f * r → p * fact (1 + c) ≡ f * (suc c * r)
unfolding fact
run_on p c k r f e = ap (λ x. p * fact x) (one-add c) ∙ omega (arith, ap (λ x. suc c * x) e)

run_ends : (k p c s r : ℕ) → c ≡ 0 → p ≡ s * r → (fact k * p) * fact (0 + c) ≡ fact (k + (0 + c)) * (s * r)
unfolding fact
run_ends k p c s r e h = ap (λ x. (fact k * p) * fact (0 + x)) e ∙ ap (λ x. (fact k * x) * 1) h ∙ omega arith ∙ ap (λ x. fact x * (s * r)) back
  where
    back : k ≡ k + (0 + c)
    back = omega arith

one_on : (k c : ℕ) → suc k + c ≡ k + (1 + c)
one_on k c = omega arith

runs-from : {a : ℕ} {l : List ℕ} (k : ℕ) → Down a l → facts (runs_from a k l) * fact (count a l) ≡ fact (k + count a l) * counts l
unfolding facts counts runs_from count fact
runs-from k none = ap (λ x. (fact x * 1) * 1) (sym (add-zero k)) ∙ omega arith
runs-from {a} k (one {a = b} {l = l} h d) =
    by_eqb (suc b) a
    (λ t. facts (cond t (runs_from a (suc k) l) (k ∷ runs_from (suc b) 1 l)) * fact (cond t 1 0 + count a l) ≡ fact (k + (cond t 1 0 + count a l)) * (suc (count (suc b) l) * counts l))
    (λ e. run_on (facts (runs_from a (suc k) l)) (count a l) k (counts l) (fact (suc k + count a l))
    (subst (λ x. facts (runs_from x (suc k) l) * fact (count x l) ≡ fact (suc k + count x l) * counts l) e (runs-from (suc k) d))
    ∙ ap₂ (λ (x y : ℕ). fact x * (suc y * counts l)) (one_on k (count a l)) (ap (λ x. count x l) (sym e)))
    (λ n. run_ends k (facts (runs_from (suc b) 1 l)) (count a l) (suc (count (suc b) l)) (counts l)
    (count-above a d (omega arith)) (first_run (facts (runs_from (suc b) 1 l)) (count (suc b) l) (counts l) (runs-from 1 d)))

runs-is : {m : ℕ} {l : List ℕ} → Down m l → facts (runs l) ≡ counts l
unfolding runs facts counts
runs-is none = refl
runs-is (one {a = a} {l = l} h d) = first_run (facts (runs_from (suc a) 1 l)) (count (suc a) l) (counts l) (runs-from 1 d)

pub facts-weight : {m : ℕ} {l : List ℕ} → Down m l → facts l * facts (runs l) ≡ weight l
facts-weight {m} {l} d = ap (λ x. facts l * x) (runs-is d) ∙ weight_is l

-- ---- no run is longer than the list, and there are no more runs than parts
run-from-most : (a k : ℕ) (l : List ℕ) (i : ℕ) → 1 ≤ k → get_or (runs_from a k l) i 0 ≤ k + length l
unfolding runs_from
run-from-most a k [] zero h = omega arith
run-from-most a k [] (suc i) h = omega arith
run-from-most a k (b ∷ l) i h =
    by_eqb b a (λ t. get_or (cond t (runs_from a (suc k) l) (k ∷ runs_from b 1 l)) i 0 ≤ k + suc (length l))
    (λ _. omega (arith, run-from-most a (suc k) l i (omega arith)))
    (λ _. other i (λ j. run-from-most b 1 l j (omega arith)))
  where
    other : (i : ℕ) → ((j : ℕ) → get_or (runs_from b 1 l) j 0 ≤ 1 + length l) → get_or (k ∷ runs_from b 1 l) i 0 ≤ k + suc (length l)
    other zero f = omega arith
    other (suc i) f = omega (arith, f i)

pub run-most : (l : List ℕ) (i : ℕ) → get_or (runs l) i 0 ≤ length l
unfolding runs
run-most [] i = omega arith
run-most (a ∷ l) i = omega (arith, run-from-most a 1 l i (omega arith))

runs-from-few : (a k : ℕ) (l : List ℕ) → length (runs_from a k l) ≤ suc (length l)
unfolding runs_from
runs-from-few a k [] = omega arith
runs-from-few a k (b ∷ l) =
    by_eqb b a (λ t. length (cond t (runs_from a (suc k) l) (k ∷ runs_from b 1 l)) ≤ suc (suc (length l)))
    (λ _. omega (arith, runs-from-few a (suc k) l)) (λ _. omega (arith, runs-from-few b 1 l))

pub runs-few : (l : List ℕ) → length (runs l) ≤ length l
unfolding runs
runs-few [] = omega arith
runs-few (a ∷ l) = runs-from-few a 1 l
