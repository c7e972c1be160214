-- The part lists found without dead ends: no part is tried that leaves too much or too little for the rest. So they are computed quickly, and they
-- are the same. Assumes nothing.
use Rattle.std.proofs.Common.{◌≡◌, refl, ◌∙◌, ap, ap₂, cond, List, [], ◌∷◌, ◌++◌, map, ℕ, zero, suc, ◌+◌, ◌-◌, ◌*◌, arith, leb, eqb}
use Rattle.partitions.specs.Parts.{parts}
use Rattle.partitions.proofs.Tests.{by-leb}
use Rattle.partitions.proofs.Successor.{none-low, none-high}

unfoldable pub pruned : ℕ → ℕ → ℕ → List (List ℕ)
pruned zero m n = cond (eqb n 0) ([] ∷ []) []
pruned (suc k) zero n = []
pruned (suc k) (suc m) n =
    let with-m = map (λ l. suc m ∷ l) (pruned k (suc m) (n - suc m)) in
    let all = cond (leb (suc m + k) n) with-m [] ++ pruned (suc k) m n in
    cond (leb n (suc m * suc k)) all []

-- the lists that begin with m + 1
abbrev begun : ℕ → ℕ → ℕ → List (List ℕ)
begun k m n = map (λ l. suc m ∷ l) (parts k (suc m) (n - suc m))

begun-is : (k m n : ℕ) → cond (leb (suc m) n) (begun k m n) [] ≡ cond (leb (suc m + k) n) (begun k m n) []
begun-is k m n =
    by-leb (suc m) n (λ b. cond b (begun k m n) [] ≡ cond (leb (suc m + k) n) (begun k m n) [])
    (λ h. by-leb (suc m + k) n (λ b. begun k m n ≡ cond b (begun k m n) [])
    (λ _. refl)
    (λ g. ap (map (λ l. suc m ∷ l)) (none-low k (suc m) (n - suc m) (omega arith))))
    (λ h. by-leb (suc m + k) n (λ b. [] ≡ cond b (begun k m n) []) (λ g. absurd (omega arith)) (λ _. refl))

pub pruned-is : (k m n : ℕ) → parts k m n ≡ pruned k m n
unfolding parts pruned
pruned-is zero m n = refl
pruned-is (suc k) zero n = refl
pruned-is (suc k) (suc m) n =
    by-leb n (suc m * suc k) (λ b. parts (suc k) (suc m) n ≡ cond b (cond (leb (suc m + k) n) (map (λ l. suc m ∷ l) (pruned k (suc m) (n - suc m))) [] ++ pruned (suc k) m n) [])
    (λ _. ap₂ ◌++◌
    (begun-is k m n ∙ ap (λ ls. cond (leb (suc m + k) n) (map (λ l. suc m ∷ l) ls) []) (pruned-is k (suc m) (n - suc m)))
    (pruned-is (suc k) m n))
    (λ h. none-high (suc k) (suc m) n h)
