-- The multiplicity of a part list: each single division leaves no remainder; and what it needs of the factorials.
-- Assumes nothing.
use Rattle.std.proofs.Common.{◌≡◌, refl, sym, ◌∙◌, ap, subst, true, List, [], ◌∷◌, ◌++◌, ℕ, zero, suc, ◌*◌, ◌/◌, ◌%◌, ◌≤◌, arith, mul-div_cancel, mul-le-mul, mul_assoc, le_refl, le_trans, div-le_self, length, get_or}
use native.Mathlib.Nat.{mul-mod_left}
use Rattle.partitions.specs.Parts.{total, fact, divide, runs, multiplicity}
use Rattle.partitions.specs.Count.{is_list}
use Rattle.partitions.proofs.Down.{Down, long}
use Rattle.partitions.proofs.Member.{list-down}
use Rattle.partitions.proofs.Out.{fact-pos, weight, weight-pos, down_pos}
use Rattle.partitions.proofs.Mult.{weight-divides}
use Rattle.partitions.proofs.Runs.{facts, facts-weight, run-most}

-- ---- factorials
pub fact-most : (a b : ℕ) → a ≤ b → fact a ≤ fact b
unfolding fact
fact-most zero b h = fact-pos b
fact-most (suc a) zero h = absurd (omega arith)
fact-most (suc a) (suc b) h = mul-le-mul h (fact-most a b (omega arith))

-- ---- n divided by the factorial of each number in turn: each leaves no remainder
unfoldable pub Exactly : ℕ → List ℕ → Type 0
Exactly n [] = Unit {0}
Exactly n (d ∷ ds) = (n % fact d ≡ 0) × Exactly (n / fact d) ds

module _ (q d f : ℕ) where
  regroup : q * (fact d * f) ≡ (q * f) * fact d
  regroup = omega arith

  no-remainder : (q * (fact d * f)) % fact d ≡ 0
  no-remainder = ap (λ x. x % fact d) regroup ∙ mul-mod_left (q * f) (fact d)

  quotient : (q * (fact d * f)) / fact d ≡ q * f
  quotient = ap (λ x. x / fact d) regroup ∙ mul-div_cancel (q * f) (fact-pos d)

exactly : (ds : List ℕ) (q : ℕ) → Exactly (q * facts ds) ds
unfolding Exactly facts
exactly [] q = tt
exactly (d ∷ ds) q = (no-remainder q d (facts ds), subst (λ x. Exactly x ds) (sym (quotient q d (facts ds))) (exactly ds q))

divide-exact : (ds : List ℕ) (q : ℕ) → divide (q * facts ds) ds ≡ q
unfolding divide facts
divide-exact [] q = omega arith
divide-exact (d ∷ ds) q = ap (λ x. divide x ds) (quotient q d (facts ds)) ∙ divide-exact ds q

facts-append : (l r : List ℕ) → facts (l ++ r) ≡ facts l * facts r
unfolding facts
facts-append [] r = omega arith
facts-append (a ∷ l) r = ap (λ x. fact a * x) (facts-append l r) ∙ sym (mul_assoc (fact a) (facts l) (facts r))

pub divide-append : (n : ℕ) (l r : List ℕ) → divide n (l ++ r) ≡ divide (divide n l) r
unfolding divide
divide-append n [] r = refl
divide-append n (a ∷ l) r = divide-append (n / fact a) l r

pub divide-most : (n : ℕ) (l : List ℕ) → divide n l ≤ n
unfolding divide
divide-most n [] = le_refl n
divide-most n (a ∷ l) = le_trans (divide-most (n / fact a) l) (div-le_self n (fact a))

-- the product of the factorials divides the factorial of the sum
divides : {m : ℕ} {l : List ℕ} → Down m l → (q : ℕ) × (q * facts (l ++ runs l) ≡ fact (total l))
divides {m} {l} d =
    let w = weight-divides (down_pos d) in
    (w.0, ap (λ x. w.0 * x) (facts-append l (runs l) ∙ facts-weight d) ∙ w.1)

-- ---- the laws, at nonincreasing lists
pub down-exactly : {m : ℕ} {l : List ℕ} → Down m l → Exactly (fact (total l)) (l ++ runs l)
down-exactly {m} {l} d = let q = divides d in subst (λ x. Exactly x (l ++ runs l)) q.1 (exactly (l ++ runs l) q.0)

pub down-exact : {m : ℕ} {l : List ℕ} → Down m l → multiplicity l * facts (l ++ runs l) ≡ fact (total l)
unfolding multiplicity
down-exact {m} {l} d =
    let q = divides d in
    ap (λ x. x * facts (l ++ runs l))
    (sym (divide-append (fact (total l)) l (runs l)) ∙ ap (λ x. divide x (l ++ runs l)) (sym q.1) ∙ divide-exact (l ++ runs l) q.0)
    ∙ q.1

-- the multiplicity as the one quotient of the factorial by the weight
pub multiplicity-is : {m : ℕ} {l : List ℕ} → Down m l → multiplicity l ≡ fact (total l) / weight l
multiplicity-is {m} {l} d =
    let e : multiplicity l * weight l ≡ fact (total l) = ap (λ x. multiplicity l * x) (sym (facts-append l (runs l) ∙ facts-weight d)) ∙ down-exact d in
    sym (ap (λ x. x / weight l) (sym e) ∙ mul-div_cancel (multiplicity l) (weight-pos l))

-- ---- at part lists
pub list-exactly : (l : List ℕ) → is_list l ≡ true → Exactly (fact (total l)) (l ++ runs l)
list-exactly l e = down-exactly (list-down l e)

pub list-exact : (l : List ℕ) → is_list l ≡ true → multiplicity l * facts (l ++ runs l) ≡ fact (total l)
list-exact l e = down-exact (list-down l e)

-- ---- the numbers whose factorials are taken are at most the sum
pub list-long : (l : List ℕ) → is_list l ≡ true → length l ≤ total l
list-long l e = long (list-down l e)

pub list-run : (l : List ℕ) (i : ℕ) → is_list l ≡ true → get_or (runs l) i 0 ≤ total l
list-run l i e = le_trans (run-most l i) (list-long l e)
