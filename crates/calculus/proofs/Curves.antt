-- The curve product is a commutative, associative, bilinear product, of which the shift is a derivation.
-- Assumes nothing.
use Rattle.std.proofs.Common.{◌≡◌, refl, sym, ◌∙◌, ap, ap₂, ℕ, zero, suc, ◌≤◌, arith}
use mathlib.Core.Path.{fun_ext}
use Rattle.calculus.proofs.Ints.{◌⊕◌, ◌⊗◌, sum}
use Rattle.calculus.proofs.Jets.{Curve, curve_mul}
use Rattle.calculus.proofs.Ring.{add-mul, mul-add, mul_comm, mul_assoc, add_assoc}
use Rattle.calculus.proofs.Sums.{sum-linear, through-sum, times-right}
use Rattle.calculus.proofs.Binom.{leib, leib-is, leib-plus, leib-flip, leib-cong, leib-linear}

infixl 7 ◌·◌
infixl 6 ◌∔◌
unfoldable pub ◌·◌ : Curve → Curve → Curve
(a · b) m = leib (λ i j. a i ⊗ b j) m

abbrev pub ◌∔◌ : Curve → Curve → Curve
(a ∔ b) m = a m ⊕ b m

-- the derivative
abbrev pub D : Curve → Curve
D a m = a (suc m)

pub curve_mul-is : (a b : Curve) → curve_mul a b ≡ a · b
unfolding curve_mul ◌·◌
curve_mul-is a b = fun_ext (λ m. leib-is (λ i j. a i ⊗ b j) m)

pub mul-suc : (a b : Curve) (m : ℕ) → (a · b) (suc m) ≡ (D a · b) m ⊕ (a · D b) m
unfolding ◌·◌ leib
mul-suc a b m = refl

pub derivation : (a b : Curve) → D (a · b) ≡ D a · b ∔ a · D b
derivation a b = fun_ext (mul-suc a b)

pub ·-comm : (a b : Curve) → a · b ≡ b · a
unfolding ◌·◌
·-comm a b = fun_ext (λ m. leib-flip (λ i j. a i ⊗ b j) m ∙ leib-cong m (λ i j e. mul_comm (a j) (b i)))

pub ·-plus : (a b c : Curve) → a · (b ∔ c) ≡ a · b ∔ a · c
unfolding ◌·◌
·-plus a b c = fun_ext (λ m. leib-cong m (λ i j e. mul-add (a i) (b j) (c j)) ∙ leib-plus (λ i j. a i ⊗ b j) (λ i j. a i ⊗ c j) m)

pub plus-· : (a b c : Curve) → (a ∔ b) · c ≡ a · c ∔ b · c
unfolding ◌·◌
plus-· a b c = fun_ext (λ m. leib-cong m (λ i j e. add-mul (a i) (b i) (c j)) ∙ leib-plus (λ i j. a i ⊗ c j) (λ i j. b i ⊗ c j) m)

pub ·-cong : (m : ℕ) {a b a' b' : Curve} → ((i : ℕ) → i ≤ m → a i ≡ a' i) → ((i : ℕ) → i ≤ m → b i ≡ b' i) → (a · b) m ≡ (a' · b') m
unfolding ◌·◌
·-cong m h k = leib-cong m (λ i j e. ap₂ (λ x y. x ⊗ y) (h i (omega arith)) (k j (omega arith)))

-- through a finite sum of curves
pub ·-sum : (d : ℕ) (a : Curve) (b : ℕ → Curve) (m : ℕ) → (a · (λ i. sum d (λ k. b k i))) m ≡ sum d (λ k. (a · b k) m)
unfolding ◌·◌
·-sum d a b m =
    leib-cong m (λ i j e. sym ((sum-linear d).times (a i) (λ k. b k j)))
    ∙ through-sum (λ f. leib (λ i j. f (i, j)) m) (leib-linear m) d (λ k p. a p.0 ⊗ b k p.1)

pub sum-· : (d : ℕ) (a : ℕ → Curve) (b : Curve) (m : ℕ) → ((λ i. sum d (λ k. a k i)) · b) m ≡ sum d (λ k. (a k · b) m)
unfolding ◌·◌
sum-· d a b m =
    leib-cong m (λ i j e. sym (times-right (sum d) (sum-linear d) (λ k. a k i) (b j)))
    ∙ through-sum (λ f. leib (λ i j. f (i, j)) m) (leib-linear m) d (λ k p. a k p.0 ⊗ b p.1)

assoc-at : (m : ℕ) (a b c : Curve) → (a · b · c) m ≡ (a · (b · c)) m
unfolding ◌·◌ leib
assoc-at zero a b c = mul_assoc (a 0) (b 0) (c 0)
assoc-at (suc m) a b c =
    mul-suc (a · b) c m
    ∙ ap (λ (x : Curve). (x · c) m ⊕ (a · b · D c) m) (derivation a b)
    ∙ ap (λ (x : Curve). x m ⊕ (a · b · D c) m) (plus-· (D a · b) (a · D b) c)
    ∙ ap₂ (λ x y. x ⊕ y) (ap₂ (λ x y. x ⊕ y) (assoc-at m (D a) b c) (assoc-at m a (D b) c)) (assoc-at m a b (D c))
    ∙ add_assoc _ _ _
    ∙ ap (λ (x : Curve). (D a · (b · c)) m ⊕ x m) (sym (·-plus a (D b · c) (b · D c)))
    ∙ ap (λ (x : Curve). (D a · (b · c)) m ⊕ (a · x) m) (sym (derivation b c))
    ∙ sym (mul-suc a (b · c) m)

pub ·-assoc : (a b c : Curve) → a · b · c ≡ a · (b · c)
·-assoc a b c = fun_ext (λ m. assoc-at m a b c)
