-- The table of binomial coefficients is Pascal's triangle, each row the sums of the row before it; what it holds where, and how large that is.
-- Assumes nothing.
use Rattle.std.proofs.Common.{◌≡◌, refl, sym, ap, ap₂, ◌∙◌, subst, List, [], ◌∷◌, ◌++◌, ℕ, zero, suc, ◌+◌, ◌-◌, ◌*◌, ◌^◌, ◌≤◌, ◌<◌, add-zero, add-suc, suc-add, zero-add, le_trans, mul-le-mul, pow-suc, arith, get_or, pow_mono, pow-add, pow_pos}
use Rattle.calculus.specs.Array.{listed}
use Rattle.calculus.specs.Graded.{triangle, index, graded}
use Rattle.calculus.specs.Choose.{choose, binomial_table}
use Rattle.calculus.proofs.Binom.{binom-above}
use Rattle.calculus.proofs.Graded.{triangle-suc, index_is, index-231, place-first, place-second}
use Rattle.calculus.proofs.LoopFilling.{listed_same, listed_at}

-- ---- how large a coefficient is
choose-bounded : (m i : ℕ) → choose m i ≤ 2 ^ m
unfolding choose
choose-bounded zero zero = omega arith
choose-bounded zero (suc i) = omega arith
choose-bounded (suc m) zero = pow_pos (suc m)
choose-bounded (suc m) (suc i) = omega (arith, choose-bounded m i, choose-bounded m (suc i), pow-suc 2 m)

-- ---- a list of values in two parts
module _ {X : Type 0} where
  listed-split : (f : ℕ → X) (i m n : ℕ) → listed f i (m + n) ≡ listed f i m ++ listed f (i + m) n
  unfolding listed
  listed-split f i zero n = ap₂ (listed f) (sym (add-zero i)) (zero-add n)
  listed-split f i (suc m) n =
      ap (listed f i) (suc-add m n) ∙ ap (λ (l : List X). f i ∷ l) (listed-split f (suc i) m n ∙ ap (λ (k : ℕ). listed f (suc i) m ++ listed f k n) (suc-add i m ∙ sym (add-suc i m)))

-- ---- the rows, each from the one before it
unfoldable pub sums : List ℕ → List ℕ
sums [] = []
sums (x ∷ []) = x ∷ []
sums (x ∷ (y ∷ l)) = (x + y) ∷ sums (y ∷ l)

unfoldable pub pascal : List ℕ → ℕ → List ℕ
pascal row zero = []
pascal row (suc n) = row ++ pascal (1 ∷ sums row) n

sums-are : (m i k : ℕ) → i + k ≡ m → sums (listed (choose m) i (suc k)) ≡ listed (choose (suc m)) (suc i) (suc k)
unfolding listed choose sums
sums-are m i zero e = ap (λ (x : ℕ). x ∷ []) (sym (ap (λ (y : ℕ). choose m i + y) (binom-above m (suc i) (omega arith)) ∙ add-zero (choose m i)))
sums-are m i (suc k) e = ap (λ (l : List ℕ). (choose m i + choose m (suc i)) ∷ l) (sums-are m (suc i) k (omega arith))

next_row : (m : ℕ) → 1 ∷ sums (listed (choose m) 0 (suc m)) ≡ listed (choose (suc m)) 0 (suc (suc m))
unfolding listed choose
next_row m = ap (λ (l : List ℕ). 1 ∷ l) (sums-are m 0 m (zero-add m))

-- a row stands in its place
abbrev entry : ℕ → ℕ
entry = graded (λ i j. choose (i + j) i)

in_place : (m i : ℕ) → i ≤ m → choose m i ≡ entry (triangle m + i)
in_place m i h =
    let e : i + (m - i) ≡ m = omega arith in
    let q : index i (m - i) ≡ triangle m + i = index_is i (m - i) ∙ ap (λ (x : ℕ). triangle x + i) e in
    ap (λ (x : ℕ). choose x i) (sym e) ∙ sym (ap₂ (λ (x y : ℕ). choose (x + y) x) (place-first i (m - i)) (place-second i (m - i))) ∙ ap entry q

row_is : (m : ℕ) → listed (choose m) 0 (suc m) ≡ listed entry (triangle m) (suc m)
row_is m = listed_same (choose m) entry 0 (triangle m) (suc m) (λ x l. ap (choose m) (zero-add x) ∙ in_place m x (omega arith))

-- n rows from the row m on
unfoldable size : ℕ → ℕ → ℕ
size m zero = 0
size m (suc n) = suc m + size (suc m) n

rows_are : (m n : ℕ) → pascal (listed (choose m) 0 (suc m)) n ≡ listed entry (triangle m) (size m n)
unfolding pascal size listed
rows_are m zero = refl
rows_are m (suc n) =
    ap₂ ◌++◌ (row_is m) (ap (λ (l : List ℕ). pascal l n) (next_row m) ∙ rows_are (suc m) n ∙ ap (λ (k : ℕ). listed entry k (size (suc m) n)) (triangle-suc m))
    ∙ sym (listed-split entry (triangle m) (suc m) (size (suc m) n))

pub whole-table : pascal (1 ∷ []) 21 ≡ binomial_table
unfolding listed choose triangle size
whole-table = rows_are 0 21

-- ---- what stands where: the i-th coefficient of the order m
pub binomial-at : (m i : ℕ) → i ≤ m → m ≤ 20 → get_or binomial_table (triangle m + i) 0 ≡ choose m i
binomial-at m i h l =
    let e : i + (m - i) ≡ m = omega arith in
    let q : index i (m - i) ≡ triangle m + i = index_is i (m - i) ∙ ap (λ (x : ℕ). triangle x + i) e in
    let b : triangle m + i < 231 = omega (arith, q, index-231 i (m - i) (omega arith)) in
    listed_at 0 entry 0 231 (triangle m + i) b ∙ ap entry (zero-add (triangle m + i)) ∙ sym (in_place m i h)

-- ---- bounds: a coefficient of the order m is at most 2^m, so a product of two whose orders total at most 20 is at most 2^20
pub choose-small : (m n i j : ℕ) → m + n ≤ 20 → choose m i * choose n j ≤ 1048576
choose-small m n i j h =
    le_trans (mul-le-mul (choose-bounded m i) (choose-bounded n j))
    (subst (λ (x : ℕ). x ≤ 1048576) (pow-add 2 m n) (pow_mono {i = m + n} {j = 20} h))
