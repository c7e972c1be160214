-- The laws of a commutative ring in a form for `simp`: `simp laws` sorts sums of products. Assumes nothing.
use Rattle.std.proofs.Common.{◌≡◌, sym, ◌∙◌, ap}
use mathlib.Mathlib.Algebra.Ring.Defs.{CommRing}

module _ {R : Type 0} (C : CommRing R) where
  infixl 6 ◌⊕◌
  infixl 7 ◌⊗◌
  open C use {add as ◌⊕◌, mul as ◌⊗◌, zero as 𝟘, neg as neg, one as 𝟙}

  pub add_assoc : (a b c : R) → (a ⊕ b) ⊕ c ≡ a ⊕ (b ⊕ c)
  add_assoc = C.is_comm_ring.is_ring.is_semiring.is_non_unital_semiring.is_non_unital_non_assoc_semiring.is_add_comm_monoid.is_add_monoid.is_add_semigroup.add_assoc

  pub add_comm : (a b : R) → a ⊕ b ≡ b ⊕ a
  add_comm = C.is_comm_ring.is_ring.is_semiring.is_non_unital_semiring.is_non_unital_non_assoc_semiring.is_add_comm_monoid.add_comm

  pub zero-add : (a : R) → 𝟘 ⊕ a ≡ a
  zero-add = C.is_comm_ring.is_ring.is_semiring.is_non_unital_semiring.is_non_unital_non_assoc_semiring.is_add_comm_monoid.is_add_monoid.zero-add

  pub add-zero : (a : R) → a ⊕ 𝟘 ≡ a
  add-zero = C.is_comm_ring.is_ring.is_semiring.is_non_unital_semiring.is_non_unital_non_assoc_semiring.is_add_comm_monoid.is_add_monoid.add-zero

  pub add-mul : (a b c : R) → (a ⊕ b) ⊗ c ≡ a ⊗ c ⊕ b ⊗ c
  add-mul = C.is_comm_ring.is_ring.is_semiring.is_non_unital_semiring.is_non_unital_non_assoc_semiring.right_distrib

  pub mul-add : (a b c : R) → a ⊗ (b ⊕ c) ≡ a ⊗ b ⊕ a ⊗ c
  mul-add = C.is_comm_ring.is_ring.is_semiring.is_non_unital_semiring.is_non_unital_non_assoc_semiring.left_distrib

  pub zero-mul : (a : R) → 𝟘 ⊗ a ≡ 𝟘
  zero-mul = C.is_comm_ring.is_ring.is_semiring.is_non_unital_semiring.is_non_unital_non_assoc_semiring.zero-mul

  pub mul-zero : (a : R) → a ⊗ 𝟘 ≡ 𝟘
  mul-zero = C.is_comm_ring.is_ring.is_semiring.is_non_unital_semiring.is_non_unital_non_assoc_semiring.mul-zero

  pub mul_assoc : (a b c : R) → (a ⊗ b) ⊗ c ≡ a ⊗ (b ⊗ c)
  mul_assoc = C.is_comm_ring.is_ring.is_semiring.is_non_unital_semiring.mul_assoc

  pub one-mul : (a : R) → 𝟙 ⊗ a ≡ a
  one-mul = C.is_comm_ring.is_ring.is_semiring.one-mul

  pub mul-one : (a : R) → a ⊗ 𝟙 ≡ a
  mul-one = C.is_comm_ring.is_ring.is_semiring.mul-one

  pub mul_comm : (a b : R) → a ⊗ b ≡ b ⊗ a
  mul_comm = C.is_comm_ring.mul_comm

  pub neg-add : (a : R) → neg a ⊕ a ≡ 𝟘
  neg-add = C.is_comm_ring.is_ring.neg-add_cancel

  pub add_left_comm : (a b c : R) → a ⊕ (b ⊕ c) ≡ b ⊕ (a ⊕ c)
  add_left_comm a b c = sym (add_assoc a b c) ∙ ap (λ x. x ⊕ c) (add_comm a b) ∙ add_assoc b a c

  pub mul_left_comm : (a b c : R) → a ⊗ (b ⊗ c) ≡ b ⊗ (a ⊗ c)
  mul_left_comm a b c = sym (mul_assoc a b c) ∙ ap (λ x. x ⊗ c) (mul_comm a b) ∙ mul_assoc b a c

  -- the negation is the only inverse
  pub neg_unique : (a b : R) → a ⊕ b ≡ 𝟘 → b ≡ neg a
  neg_unique a b h = sym (zero-add b) ∙ ap (λ x. x ⊕ b) (sym (neg-add a)) ∙ add_assoc (neg a) a b ∙ ap (λ x. neg a ⊕ x) h ∙ add-zero (neg a)

  pub neg-neg : (a : R) → neg (neg a) ≡ a
  neg-neg a = sym (neg_unique (neg a) a (neg-add a))

  pub neg-zero : neg 𝟘 ≡ 𝟘
  neg-zero = sym (neg_unique 𝟘 𝟘 (add-zero 𝟘))

  pub add-neg : (a : R) → a ⊕ neg a ≡ 𝟘
  add-neg a = add_comm a (neg a) ∙ neg-add a

  pub neg-mul : (a b : R) → neg a ⊗ b ≡ neg (a ⊗ b)
  neg-mul a b = neg_unique (a ⊗ b) (neg a ⊗ b) (sym (add-mul a (neg a) b) ∙ ap (λ x. x ⊗ b) (add-neg a) ∙ zero-mul b)

  pub mul-neg : (a b : R) → a ⊗ neg b ≡ neg (a ⊗ b)
  mul-neg a b = mul_comm a (neg b) ∙ neg-mul b a ∙ ap neg (mul_comm b a)

  pub neg_sum : (a b : R) → neg (a ⊕ b) ≡ neg a ⊕ neg b
  neg_sum a b = sym (neg_unique (a ⊕ b) (neg a ⊕ neg b) (simp (add_assoc, add_left_comm b (neg a) (neg b), add-neg, add-zero)))

  -- what is its own double is zero
  pub own-double : (a : R) → a ≡ a ⊕ a → a ≡ 𝟘
  own-double a h = sym (zero-add a) ∙ ap (λ x. x ⊕ a) (sym (neg-add a)) ∙ add_assoc (neg a) a a ∙ ap (λ x. neg a ⊕ x) (sym h) ∙ neg-add a

  pub ruleset laws = (add_assoc, add_comm, add_left_comm, mul_assoc, mul_comm, mul_left_comm, zero-add, add-zero, zero-mul, mul-zero, add-mul, mul-add, mul-one, one-mul, neg-zero, neg-neg, neg-mul, mul-neg, neg_sum)

  test : (a b c d : R) → (a ⊕ neg b) ⊗ (c ⊕ d) ≡ neg (d ⊗ b) ⊕ (neg b ⊗ c ⊕ a ⊗ d) ⊕ c ⊗ a
  test a b c d = simp laws
