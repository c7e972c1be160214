-- What `factorial` answers is the product of the numbers from 1 to its own, and 1 at 0. Assumes nothing.
use Rattle.std.proofs.Common.{◌≡◌, refl, sym, ap, ◌∙◌, List, [], ◌∷◌, ◌++◌, Ok, Err, ℕ, zero, suc, ◌*◌, ◌≤◌, arith, le-ltb}
use Rattle.partitions.specs.Parts.{fact}
use Rattle.partitions.specs.Count.{factorial_of}
use Rattle.refusals.specs.declared.Refusal.TheVariants.{OrderAbove20}

-- 1, 2, .., n
abbrev pub one_to : ℕ → List ℕ
one_to zero = []
one_to (suc n) = one_to n ++ (suc n ∷ [])

abbrev pub product : List ℕ → ℕ
product [] = 1
product (a ∷ l) = a * product l

-- ---- n is the last of its factors, and the others are those of n - 1
product-with : (l : List ℕ) (a : ℕ) → product (l ++ (a ∷ [])) ≡ a * product l
product-with [] a = refl
product-with (b ∷ l) a = ap (λ x. b * x) (product-with l a) ∙ omega arith

pub fact-is-product : (n : ℕ) → fact n ≡ product (one_to n)
unfolding fact
fact-is-product zero = refl
fact-is-product (suc n) = ap (λ x. suc n * x) (fact-is-product n) ∙ sym (product-with (one_to n) (suc n))

-- ---- the factorial of n, up to 20, is 1 · 2 · … · n
pub factorial-is-product : (n : ℕ) → n ≤ 20 → factorial_of n ≡ Ok (product (one_to n))
unfolding factorial_of
factorial-is-product n h = simp (le-ltb 20 n h, fact-is-product n)

-- at 0, where there is nothing to multiply, it is 1
pub factorial-at-0 : factorial_of 0 ≡ Ok 1
factorial-at-0 = factorial-is-product 0 (omega arith)

-- at the limit, and one above it
pub factorial-at-20 : factorial_of 20 ≡ Ok 2432902008176640000
factorial-at-20 = factorial-is-product 20 (omega arith)

pub factorial-at-21 : factorial_of 21 ≡ Err OrderAbove20
unfolding factorial_of
factorial-at-21 = refl
