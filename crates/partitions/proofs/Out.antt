-- Taking one part out of a list: what it does to the sum, the counts and the weight.
-- Assumes nothing.
use Rattle.std.proofs.Common.{◌≡◌, refl, sym, ◌∙◌, ap, ap₂, subst, cond, ◌⊎◌, inl, inr, List, [], ◌∷◌, ℕ, zero, suc, ◌+◌, ◌*◌, ◌≤◌, ◌<◌, arith, mul-pos, mul-zero, mul-add, one-add, eqb, length, eq-eqb, ne_eqb}
use Rattle.partitions.specs.Parts.{total, fact}
use Rattle.partitions.proofs.Tests.{by_eqb}
use Rattle.partitions.proofs.Down.{Down, none, one}

-- r is l without one v
pub data Out (v : ℕ) : List ℕ → List ℕ → Type 0 where
  here : {l : List ℕ} → Out v (v ∷ l) l
  there : {a : ℕ} {l r : List ℕ} → Out v l r → Out v (a ∷ l) (a ∷ r)

-- lists of positive parts
pub data Pos : List ℕ → Type 0 where
  empty : Pos []
  more : {a : ℕ} {l : List ℕ} → Pos l → Pos (suc a ∷ l)

pub down_pos : {m : ℕ} {l : List ℕ} → Down m l → Pos l
down_pos none = empty
down_pos (one h d) = more (down_pos d)

pub out-pos : {v : ℕ} {l r : List ℕ} → Pos l → Out v l r → Pos r
out-pos empty o = elim o [ ]
out-pos (more p) here = p
out-pos (more p) (there o) = more (out-pos p o)

pub out-length : {v : ℕ} {l r : List ℕ} → Out v l r → length l ≡ suc (length r)
out-length here = refl
out-length (there o) = ap suc (out-length o)

pub out-total : {v : ℕ} {l r : List ℕ} → Out v l r → total l ≡ v + total r
unfolding total
out-total here = refl
out-total (there o) = omega (arith, out-total o)

-- how often v stands in the list
unfoldable pub count : ℕ → List ℕ → ℕ
count v [] = 0
count v (a ∷ l) = cond (eqb a v) 1 0 + count v l

out-count : {v : ℕ} {l r : List ℕ} (u : ℕ) → Out v l r → count u l ≡ cond (eqb v u) 1 0 + count u r
unfolding count
out-count u here = refl
out-count u (there o) = omega (arith, out-count u o)

-- the product of the parts' factorials and of the factorials of how often each part stands there
unfoldable pub weight : List ℕ → ℕ
weight [] = 1
weight (a ∷ l) = (fact a * suc (count a l)) * weight l

pub fact-pos : (n : ℕ) → 0 < fact n
unfolding fact
fact-pos zero = omega arith
fact-pos (suc n) = mul-pos (omega arith) (fact-pos n)

pub weight-pos : (l : List ℕ) → 0 < weight l
unfolding weight
weight-pos [] = omega arith
weight-pos (a ∷ l) = mul-pos (mul-pos (fact-pos a) (omega arith)) (weight-pos l)

count-here : (v : ℕ) (l : List ℕ) → count v (v ∷ l) ≡ suc (count v l)
unfolding count
count-here v l = ap (λ b. cond b 1 0 + count v l) (eq-eqb v v refl) ∙ one-add (count v l)

-- the counts of a and v before and after v is taken out from behind a
counts : {v : ℕ} {l r : List ℕ} (a : ℕ) → Out v l r → suc (count a l) * count v l ≡ (cond (eqb a v) 1 0 + count v l) * suc (count a r)
counts {v} {l} {r} a o =
    by_eqb a v (λ b. suc (count a l) * count v l ≡ (cond b 1 0 + count v l) * suc (count a r))
    (λ e. equal (count a l) (count v l) (count a r) (ap (λ x. count x l) e) (out-count a o ∙ ap (λ b. cond b 1 0 + count a r) (eq-eqb v a (sym e))))
    (λ n. other (count a l) (count v l) (count a r) (out-count a o ∙ ap (λ b. cond b 1 0 + count a r) (ne_eqb v a (λ e. n (sym e)))))
  where
    equal : (x z y : ℕ) → x ≡ z → x ≡ 1 + y → suc x * z ≡ (1 + z) * suc y
    equal x z y p q = ap₂ (λ (m n : ℕ). m * n) (omega arith) (omega arith)

    other : (x z y : ℕ) → x ≡ 0 + y → suc x * z ≡ (0 + z) * suc y
    other x z y p = ap (λ n. suc n * z) p ∙ omega arith

arrange : (fa sl fv cv wr d sr : ℕ) → sl * cv ≡ (d + cv) * sr → (fa * sl) * ((fv * cv) * wr) ≡ (fv * (d + cv)) * ((fa * sr) * wr)
arrange fa sl fv cv wr d sr h = omega (arith, ap (λ x. (fa * fv * wr) * x) h)

pub out-weight : {v : ℕ} {l r : List ℕ} → Out v l r → weight l ≡ (fact v * count v l) * weight r
unfolding weight count
out-weight {v} (here {l = l}) = ap (λ n. (fact v * n) * weight l) (sym (count-here v l))
out-weight {v} (there {a = a} {l = l} {r = r} o) =
    ap (λ w. (fact a * suc (count a l)) * w) (out-weight o)
    ∙ arrange (fact a) (suc (count a l)) (fact v) (count v l) (weight r) (cond (eqb a v) 1 0) (suc (count a r)) (counts a o)

-- a value stands nowhere in the list, or can be taken out
pub none-or-out : (v : ℕ) (l : List ℕ) → (count v l ≡ 0) ⊎ ((r : List ℕ) × Out v l r)
unfolding count
none-or-out v [] = inl refl
none-or-out v (a ∷ l) =
    by_eqb a v (λ b. (cond b 1 0 + count v l ≡ 0) ⊎ ((r : List ℕ) × Out v (a ∷ l) r))
    (λ e. inr (l, subst (λ x. Out v (x ∷ l) l) (sym e) here))
    (λ _. behind (none-or-out v l))
  where
    behind : (count v l ≡ 0) ⊎ ((r : List ℕ) × Out v l r) → (0 + count v l ≡ 0) ⊎ ((r : List ℕ) × Out v (a ∷ l) r)
    behind (inl e) = inl (omega arith)
    behind (inr o) = inr (a ∷ o.0, there o.1)

-- ---- f 0 + .. + f (n − 1)
unfoldable pub sum : ℕ → (ℕ → ℕ) → ℕ
sum zero f = 0
sum (suc n) f = sum n f + f n

sum-cong : (n : ℕ) {f g : ℕ → ℕ} → ((i : ℕ) → i < n → f i ≡ g i) → sum n f ≡ sum n g
unfolding sum
sum-cong zero h = refl
sum-cong (suc n) h = ap₂ (λ (x y : ℕ). x + y) (sum-cong n (λ i l. h i (omega arith))) (h n (omega arith))

sum-plus : (n : ℕ) (f g : ℕ → ℕ) → sum n (λ i. f i + g i) ≡ sum n f + sum n g
unfolding sum
sum-plus zero f g = refl
sum-plus (suc n) f g = omega (arith, sum-plus n f g)

sum-zero : (n : ℕ) → sum n (λ i. 0) ≡ 0
unfolding sum
sum-zero zero = refl
sum-zero (suc n) = omega (arith, sum-zero n)

-- the parts, each as often as it stands there, sum to the total
abbrev chosen : ℕ → ℕ → ℕ
chosen a w = suc w * cond (eqb (suc a) (suc w)) 1 0

chosen-no : (a w : ℕ) → ¬ (a ≡ w) → chosen a w ≡ 0
chosen-no a w h = by_eqb (suc a) (suc w) (λ b. suc w * cond b 1 0 ≡ 0) (λ e. absurd (h (omega arith))) (λ _. omega arith)

chosen-yes : (a w : ℕ) → a ≡ w → chosen a w ≡ suc a
chosen-yes a w h = by_eqb (suc a) (suc w) (λ b. suc w * cond b 1 0 ≡ suc a) (λ _. omega arith) (λ n. absurd (n (ap suc h)))

not_there : (N a : ℕ) → N ≤ a → sum N (chosen a) ≡ 0
not_there N a h = sum-cong N (λ w l. chosen-no a w (λ e. omega arith)) ∙ sum-zero N

at_one : (N a : ℕ) → a < N → sum N (chosen a) ≡ suc a
unfolding sum
at_one zero a h = absurd (omega arith)
at_one (suc N) a h =
    by_eqb a N (λ _. sum N (chosen a) + chosen a N ≡ suc a)
    (λ e. ap₂ (λ (x y : ℕ). x + y) (not_there N a (omega arith)) (chosen-yes a N e) ∙ omega arith)
    (λ n. ap₂ (λ (x y : ℕ). x + y) (at_one N a (omega arith)) (chosen-no a N n) ∙ omega arith)

pub by_value : (N : ℕ) {l : List ℕ} → Pos l → total l ≤ N → sum N (λ w. suc w * count (suc w) l) ≡ total l
unfolding count total
by_value N empty h = sum-cong N (λ w k. mul-zero (suc w)) ∙ sum-zero N
by_value N (more {a = a} {l = l} p) h =
    sum-cong N (λ w k. mul-add (suc w) (cond (eqb (suc a) (suc w)) 1 0) (count (suc w) l))
    ∙ sum-plus N (chosen a) (λ w. suc w * count (suc w) l)
    ∙ ap₂ (λ (x y : ℕ). x + y) (at_one N a (omega arith)) (by_value N p (omega arith))

-- what divides each term divides c times the sum
pub divides-sum : (n c d : ℕ) (f : ℕ → ℕ) → ((i : ℕ) → i < n → (q : ℕ) × (q * d ≡ c * f i)) → (q : ℕ) × (q * d ≡ c * sum n f)
unfolding sum
divides-sum zero c d f h = (0, omega arith)
divides-sum (suc n) c d f h =
    let a = divides-sum n c d f (λ i l. h i (omega arith)) in
    let b = h n (omega arith) in
    (a.0 + b.0, both a.0 b.0 (sum n f) (f n) a.1 b.1)
  where
    both : (p q x y : ℕ) → p * d ≡ c * x → q * d ≡ c * y → (p + q) * d ≡ c * (x + y)
    both p q x y e g = omega arith
