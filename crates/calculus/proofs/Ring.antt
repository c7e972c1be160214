-- ℤ is a commutative ring, for the shut operations; `ring` sorts a sum of products.
-- Assumes nothing.
use Rattle.std.proofs.Common.{◌≡◌, refl, sym, ◌∙◌, ap, ℕ, zero, suc, ◌+◌, ◌*◌, ℤ, pos, negsuc, neg_ℤ, ◌+ℤ◌, ◌*ℤ◌}
use lib.IntN.{suc_ℤ, pred_ℤ, +ℤ_assoc, +ℤ_comm, +ℤ_idl, +ℤ_idr, +ℤ_invr, suc_ℤ-+ℤ, pred_ℤ-+ℤ, suc_ℤ-*ℤ, pred_ℤ-*ℤ, zero-*ℤ, *ℤ_comm, *ℤ-one, one}
use Rattle.calculus.proofs.Ints.{◌⊕◌, ◌⊗◌, neg}

-- what the shut names stand for
pub add_is : (a b : ℤ) → a ⊕ b ≡ a +ℤ b
unfolding ◌⊕◌
add_is a b = refl

pub mul_is : (a b : ℤ) → a ⊗ b ≡ a *ℤ b
unfolding ◌⊗◌
mul_is a b = refl

pub neg_is : (a : ℤ) → neg a ≡ neg_ℤ a
unfolding neg
neg_is a = refl

-- the library's laws at the shut names
pub add_assoc : (a b c : ℤ) → (a ⊕ b) ⊕ c ≡ a ⊕ (b ⊕ c)
unfolding ◌⊕◌
add_assoc = +ℤ_assoc

pub add_comm : (a b : ℤ) → a ⊕ b ≡ b ⊕ a
unfolding ◌⊕◌
add_comm = +ℤ_comm

pub add_left_comm : (a b c : ℤ) → a ⊕ (b ⊕ c) ≡ b ⊕ (a ⊕ c)
add_left_comm a b c = sym (add_assoc a b c) ∙ ap (λ x. x ⊕ c) (add_comm a b) ∙ add_assoc b a c

pub middle : (a b c d : ℤ) → (a ⊕ b) ⊕ (c ⊕ d) ≡ (a ⊕ c) ⊕ (b ⊕ d)
middle a b c d = simp (add_assoc, add_left_comm b c d)

pub zero-add : (a : ℤ) → pos 0 ⊕ a ≡ a
unfolding ◌⊕◌
zero-add = +ℤ_idl

pub add-zero : (a : ℤ) → a ⊕ pos 0 ≡ a
unfolding ◌⊕◌
add-zero = +ℤ_idr

pub add-neg : (a : ℤ) → a ⊕ neg a ≡ pos 0
unfolding ◌⊕◌ neg
add-neg = +ℤ_invr

pub mul_comm : (a b : ℤ) → a ⊗ b ≡ b ⊗ a
unfolding ◌⊗◌
mul_comm = *ℤ_comm

pub zero-mul : (a : ℤ) → pos 0 ⊗ a ≡ pos 0
unfolding ◌⊗◌
zero-mul = zero-*ℤ

pub mul-zero : (a : ℤ) → a ⊗ pos 0 ≡ pos 0
mul-zero a = mul_comm a (pos 0) ∙ zero-mul a

pub mul-one : (a : ℤ) → a ⊗ pos 1 ≡ a
unfolding ◌⊗◌ one
mul-one = *ℤ-one

pub one-mul : (a : ℤ) → pos 1 ⊗ a ≡ a
one-mul a = mul_comm (pos 1) a ∙ mul-one a

-- naturals: by definition
pub pos-add : (m n : ℕ) → pos (m + n) ≡ pos m ⊕ pos n
unfolding ◌⊕◌
pos-add m n = refl

pub pos-mul : (m n : ℕ) → pos (m * n) ≡ pos m ⊗ pos n
unfolding ◌⊗◌
pos-mul m n = refl

-- one up and one down
up-add : (a b : ℤ) → suc_ℤ a ⊕ b ≡ suc_ℤ (a ⊕ b)
unfolding ◌⊕◌
up-add = suc_ℤ-+ℤ

down-add : (a b : ℤ) → pred_ℤ a ⊕ b ≡ pred_ℤ (a ⊕ b)
unfolding ◌⊕◌
down-add = pred_ℤ-+ℤ

up-mul : (a b : ℤ) → suc_ℤ a ⊗ b ≡ a ⊗ b ⊕ b
unfolding ◌⊕◌ ◌⊗◌
up-mul = suc_ℤ-*ℤ

down-mul : (a b : ℤ) → pred_ℤ a ⊗ b ≡ a ⊗ b ⊕ neg b
unfolding ◌⊕◌ ◌⊗◌ neg
down-mul = pred_ℤ-*ℤ

walk : (P : ℤ → Type 0) → P (pos 0) → ((a : ℤ) → P a → P (suc_ℤ a)) → ((a : ℤ) → P a → P (pred_ℤ a)) → (a : ℤ) → P a
walk P z s p (pos zero) = z
walk P z s p (pos (suc n)) = s (pos n) (walk P z s p (pos n))
walk P z s p (negsuc zero) = p (pos 0) z
walk P z s p (negsuc (suc n)) = p (negsuc n) (walk P z s p (negsuc n))

-- the distributive and associative laws, by walking to the first factor
pub add-mul : (a b c : ℤ) → (a ⊕ b) ⊗ c ≡ a ⊗ c ⊕ b ⊗ c
add-mul a b c = walk (λ a. (a ⊕ b) ⊗ c ≡ a ⊗ c ⊕ b ⊗ c)
    (ap (λ x. x ⊗ c) (zero-add b) ∙ sym (zero-add (b ⊗ c)) ∙ ap (λ x. x ⊕ b ⊗ c) (sym (zero-mul c)))
    (λ x h. ap (λ y. y ⊗ c) (up-add x b) ∙ up-mul (x ⊕ b) c ∙ ap (λ y. y ⊕ c) h ∙ simp (up-mul, add_assoc, add_comm, add_left_comm))
    (λ x h. ap (λ y. y ⊗ c) (down-add x b) ∙ down-mul (x ⊕ b) c ∙ ap (λ y. y ⊕ neg c) h ∙ simp (down-mul, add_assoc, add_comm, add_left_comm))
    a

pub mul-add : (a b c : ℤ) → a ⊗ (b ⊕ c) ≡ a ⊗ b ⊕ a ⊗ c
mul-add a b c = mul_comm a (b ⊕ c) ∙ add-mul b c a ∙ simp (mul_comm b a, mul_comm c a)

-- the negation is the only inverse
pub neg_unique : (a b : ℤ) → a ⊕ b ≡ pos 0 → b ≡ neg a
neg_unique a b h =
    sym (zero-add b) ∙ ap (λ x. x ⊕ b) (sym (add-neg a) ∙ add_comm a (neg a)) ∙ add_assoc (neg a) a b ∙ ap (λ x. neg a ⊕ x) h ∙ add-zero (neg a)

pub neg-mul : (a b : ℤ) → neg a ⊗ b ≡ neg (a ⊗ b)
neg-mul a b = neg_unique (a ⊗ b) (neg a ⊗ b) (sym (add-mul a (neg a) b) ∙ ap (λ x. x ⊗ b) (add-neg a) ∙ zero-mul b)

pub mul-neg : (a b : ℤ) → a ⊗ neg b ≡ neg (a ⊗ b)
mul-neg a b = mul_comm a (neg b) ∙ neg-mul b a ∙ ap neg (mul_comm b a)

pub mul_assoc : (a b c : ℤ) → (a ⊗ b) ⊗ c ≡ a ⊗ (b ⊗ c)
mul_assoc a b c = walk (λ a. (a ⊗ b) ⊗ c ≡ a ⊗ (b ⊗ c))
    (simp zero-mul)
    (λ x h. simp (up-mul, add-mul, h))
    (λ x h. simp (down-mul, add-mul, neg-mul, h))
    a

pub mul_left_comm : (a b c : ℤ) → a ⊗ (b ⊗ c) ≡ b ⊗ (a ⊗ c)
mul_left_comm a b c = sym (mul_assoc a b c) ∙ ap (λ x. x ⊗ c) (mul_comm a b) ∙ mul_assoc b a c

pub neg-add : (a b : ℤ) → neg (a ⊕ b) ≡ neg a ⊕ neg b
neg-add a b = sym (neg_unique (a ⊕ b) (neg a ⊕ neg b) (simp (add_assoc, add_left_comm b (neg a) (neg b), add-neg, add-zero)))

pub neg-zero : neg (pos 0) ≡ pos 0
neg-zero = sym (neg_unique (pos 0) (pos 0) (add-zero (pos 0)))

-- a ring identity with no negation: `simp ring`
pub ruleset sums = (add_assoc, add_comm, add_left_comm)

pub ruleset products = (mul_assoc, mul_comm, mul_left_comm)

pub ruleset zeros = (zero-add, add-zero, zero-mul, mul-zero)

pub ruleset ring = (sums, products, zeros, add-mul, mul-add, mul-one, one-mul)

test : (a b c d : ℤ) → (a ⊕ b) ⊗ (c ⊕ d) ≡ d ⊗ b ⊕ (b ⊗ c ⊕ a ⊗ d) ⊕ c ⊗ a
test a b c d = simp ring
