-- The triangle that the code reads, by its own entries: what makes each of them, tested once over all, and so what they are. Assumes nothing.
use Rattle.std.proofs.Common.{◌≡◌, refl, sym, ◌∙◌, ap, ap₂, subst, Bool, cond, ℕ, zero, suc, ◌+◌, ◌-◌, ◌*◌, ◌/◌, ◌≤◌, ◌<◌, arith, T, leb, eqb, eqb→eq, ne_eqb, le-leb, get_or}
use Rattle.partitions.specs.Count.{stirling}
use Rattle.partitions.specs.declared.table.TheConstants.{TRIANGLE}
use Rattle.partitions.proofs.Tests.{by-leb}
use Rattle.partitions.proofs.Below.{below, below_at}

-- the entry of n and k, which stands at n (n + 1) / 2 + k
abbrev pub entry : ℕ → ℕ → ℕ
entry n k = get_or TRIANGLE (n * (n + 1) / 2 + k) 0

-- S(n, k): the entry, and 0 for a k above n, which has none
abbrev pub S : ℕ → ℕ → ℕ
S n k = cond (leb k n) (entry n k) 0

-- ---- the test: a row begins with 0, and row 0 with 1; every other entry is made by the rule from two of the row before
abbrev begins : ℕ → Bool
begins n = eqb (S n 0) (cond (eqb n 0) 1 0)

abbrev ruled : ℕ → ℕ → Bool
ruled n k = eqb (S n k) (k * S (n - 1) k + S (n - 1) (k - 1))

abbrev right : ℕ → ℕ → Bool
right n k = cond (eqb k 0) (begins n) (ruled n k)

all-right : T (below 21 (λ n. below (suc n) (right n)))
all-right = tt

right-at : (n k : ℕ) → n ≤ 20 → k ≤ n → T (right n k)
right-at n k h g = below_at (suc n) (right n) (below_at 21 (λ m. below (suc m) (right m)) all-right n (omega arith)) k (omega arith)

-- S(n, k) = k S(n - 1, k) + S(n - 1, k - 1)
pub rule : (n k : ℕ) → 1 ≤ n → n ≤ 20 → 1 ≤ k → k ≤ n → S n k ≡ k * S (n - 1) k + S (n - 1) (k - 1)
rule n k _ h g f =
    let t = subst (λ b. T (cond b (begins n) (ruled n k))) (ne_eqb k 0 (λ e. omega arith)) (right-at n k h f) in
    eqb→eq (S n k) (k * S (n - 1) k + S (n - 1) (k - 1)) t

first : (n : ℕ) → n ≤ 20 → S n 0 ≡ cond (eqb n 0) 1 0
first n h = eqb→eq (S n 0) (cond (eqb n 0) 1 0) (right-at n 0 h (omega arith))

-- ---- so the entries are the Stirling numbers of the second kind
beside : (n k : ℕ) → n < k → S n k ≡ 0
beside n k h = by-leb k n (λ b. cond b (entry n k) 0 ≡ 0) (λ g. absurd (omega arith)) (λ _. refl)

stirling-beside : (n k : ℕ) → n < k → stirling n k ≡ 0
unfolding stirling
stirling-beside n zero h = absurd (omega arith)
stirling-beside zero (suc k) h = refl
stirling-beside (suc n) (suc k) h =
    ap₂ (λ (x y : ℕ). suc k * x + y) (stirling-beside n (suc k) (omega arith)) (stirling-beside n k (omega arith)) ∙ nothing k
  where
    nothing : (k : ℕ) → suc k * 0 + 0 ≡ 0
    nothing k = omega arith

stirling-is : (n k : ℕ) → n ≤ 20 → S n k ≡ stirling n k
unfolding stirling
stirling-is zero zero h = first 0 h
stirling-is zero (suc k) h = beside 0 (suc k) (omega arith)
stirling-is (suc n) zero h = first (suc n) h ∙ ap (λ b. cond b 1 0) (ne_eqb (suc n) 0 (λ e. omega arith))
stirling-is (suc n) (suc k) h =
    by-leb k n (λ _. S (suc n) (suc k) ≡ stirling (suc n) (suc k))
    (λ g. rule (suc n) (suc k) (omega arith) h (omega arith) (omega arith)
    ∙ ap₂ (λ m j. suc k * S m (suc k) + S m j) (less n) (less k)
    ∙ ap₂ (λ (x y : ℕ). suc k * x + y) (stirling-is n (suc k) (omega arith)) (stirling-is n k (omega arith)))
    (λ g. beside (suc n) (suc k) (omega arith) ∙ sym (stirling-beside (suc n) (suc k) (omega arith)))
  where
    less : (n : ℕ) → suc n - 1 ≡ n
    less n = omega arith

pub triangle-at : (n k : ℕ) → n ≤ 20 → k ≤ n → entry n k ≡ stirling n k
triangle-at n k h g = ap (λ b. cond b (entry n k) 0) (sym (le-leb k n g)) ∙ stirling-is n k h
