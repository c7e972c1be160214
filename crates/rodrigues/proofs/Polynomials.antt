-- Polynomials, and the matrices of specs/Rodrigues.antt as values of their formal derivatives.
--
-- `Polynomial` is the commutative ring that the variables X, Y, Z, Sine and Cosine generate: what zero, one, sums, products and negations make of
-- them, equal where the laws of a commutative ring say so. These are the polynomials with whole coefficients. `formal` is the formal derivative, by
-- the usual rules; `value` puts numbers of any commutative ring for the variables. Then `derivatives-at` says, for all orders and at every
-- point of every commutative ring: the value of each entry of Rodrigues' formula in polynomials, formally derived, is that of the matrix
-- `rotation i j k n` at the point. Assumes nothing.
use Rattle.std.proofs.Common.{ℕ, zero, suc, ◌%◌, ◌≡◌, refl, sym, ◌∙◌, ap, Bool, true, false, cond}
use mathlib.Core.HubSpoke.{Sp, hub_spoke→set, rec_hub, rec_spoke}
use mathlib.Mathlib.Algebra.Ring.Defs.{CommRing}
use Rattle.rodrigues.specs.Rodrigues.{Arithmetic, Three, three, symmetric, sine_cosine, same, by_quarters, turned, rodrigues, by_x, by_y, by_z, zeros, constant, by_axis, rotation}
use Rattle.rodrigues.proofs.Ring.{add_assoc, add_comm, zero-add, neg-add, mul_assoc, mul_comm, one-mul, add-mul, laws}
use Rattle.rodrigues.proofs.Derivation.{ring, Derivation, each}
use Rattle.rodrigues.proofs.Derivatives.{formula, Variable, Direction, Sine, Cosine, derived, Derives, partial, axis, derivatives}

-- the last two constructors make it a set: any two proofs of an equation are equal
pub data Polynomial : Type 0 where
  variable : Variable → Polynomial
  nought unit : Polynomial
  sum product : Polynomial → Polynomial → Polynomial
  negation : Polynomial → Polynomial
  sum-assoc : (a b c : Polynomial) (i : 𝕀) → Polynomial [ i = 0 ↦ sum (sum a b) c | i = 1 ↦ sum a (sum b c) ]
  sum_comm : (a b : Polynomial) (i : 𝕀) → Polynomial [ i = 0 ↦ sum a b | i = 1 ↦ sum b a ]
  nought-sum : (a : Polynomial) (i : 𝕀) → Polynomial [ i = 0 ↦ sum nought a | i = 1 ↦ a ]
  negation-sum : (a : Polynomial) (i : 𝕀) → Polynomial [ i = 0 ↦ sum (negation a) a | i = 1 ↦ nought ]
  product-assoc : (a b c : Polynomial) (i : 𝕀) → Polynomial [ i = 0 ↦ product (product a b) c | i = 1 ↦ product a (product b c) ]
  product-comm : (a b : Polynomial) (i : 𝕀) → Polynomial [ i = 0 ↦ product a b | i = 1 ↦ product b a ]
  unit-product : (a : Polynomial) (i : 𝕀) → Polynomial [ i = 0 ↦ product unit a | i = 1 ↦ a ]
  distributive : (a b c : Polynomial) (i : 𝕀) → Polynomial [ i = 0 ↦ product (sum a b) c | i = 1 ↦ sum (product a c) (product b c) ]
  hub : (Sp → Polynomial) → Polynomial
  spoke : (s : Sp) (f : Sp → Polynomial) (i : 𝕀) → Polynomial [ i = 0 ↦ hub f | i = 1 ↦ f s ]

pub polynomials-set : IsSet Polynomial
polynomials-set = hub_spoke→set Polynomial hub (λ s f i. spoke s f i)

pub sum-nought : (a : Polynomial) → sum a nought ≡ a
sum-nought a = sum_comm a nought ∙ nought-sum a

-- 0·a is its own double
pub nought-product : (a : Polynomial) → product nought a ≡ nought
nought-product a =
    let z = product nought a in
    let double : sum z z ≡ z = sym (distributive nought nought a) ∙ ap (λ x. product x a) (nought-sum nought) in
    sym (nought-sum z) ∙ ap (λ x. sum x z) (sym (negation-sum z)) ∙ sum-assoc (negation z) z z ∙ ap (sum (negation z)) double ∙ negation-sum z

-- the ring
abbrev pub polynomials : CommRing Polynomial
polynomials = record {
  add = sum;
  mul = product;
  zero = nought;
  neg = negation;
  one = unit;
  is_comm_ring = record {
    is_ring = record {
      is_semiring = record {
        is_non_unital_semiring = record {
          is_non_unital_non_assoc_semiring = record {
            is_add_comm_monoid = record {
              is_add_monoid = record {
                is_add_semigroup = record { is_set = polynomials-set; add_assoc = λ a b c. sum-assoc a b c };
                zero-add = λ a. nought-sum a;
                add-zero = sum-nought;
              };
              add_comm = λ a b. sum_comm a b;
            };
            left_distrib = λ a b c. product-comm a (sum b c) ∙ distributive b c a ∙ (λ i. sum (product-comm b a i) (product-comm c a i));
            right_distrib = λ a b c. distributive a b c;
            zero-mul = nought-product;
            mul-zero = λ a. product-comm a nought ∙ nought-product a;
          };
          mul_assoc = λ a b c. product-assoc a b c;
        };
        one-mul = λ a. unit-product a;
        mul-one = λ a. product-comm a unit ∙ unit-product a;
      };
      neg-add_cancel = λ a. negation-sum a;
    };
    mul_comm = λ a b. product-comm a b;
  };
}

-- ---- the product rule keeps the laws of products
module _ {R : Type 0} (C : CommRing R) where
  infixl 6 ◌⊕◌
  infixl 7 ◌⊗◌
  open C use {add as ◌⊕◌, mul as ◌⊗◌, zero as 𝟘, one as 𝟙}

  pub assoc-derived : (a b c a' b' c' : R) → (a' ⊗ b ⊕ a ⊗ b') ⊗ c ⊕ a ⊗ b ⊗ c' ≡ a' ⊗ (b ⊗ c) ⊕ a ⊗ (b' ⊗ c ⊕ b ⊗ c')
  assoc-derived a b c a' b' c' = simp laws

  pub comm-derived : (a b a' b' : R) → a' ⊗ b ⊕ a ⊗ b' ≡ b' ⊗ a ⊕ b ⊗ a'
  comm-derived a b a' b' = simp laws

  pub unit-derived : (a a' : R) → 𝟘 ⊗ a ⊕ 𝟙 ⊗ a' ≡ a'
  unit-derived a a' = simp laws

  pub distributive-derived : (a b c a' b' c' : R) → (a' ⊕ b') ⊗ c ⊕ (a ⊕ b) ⊗ c' ≡ (a' ⊗ c ⊕ a ⊗ c') ⊕ (b' ⊗ c ⊕ b ⊗ c')
  distributive-derived a b c a' b' c' = simp laws

-- ---- the formal derivative
abbrev pub formal : Direction → Polynomial → Polynomial
formal d (variable q) = derived (ring polynomials) variable d q
formal d nought = nought
formal d unit = nought
formal d (sum a b) = sum (formal d a) (formal d b)
formal d (product a b) = sum (product (formal d a) b) (product a (formal d b))
formal d (negation a) = negation (formal d a)
formal d (sum-assoc a b c i) = sum-assoc (formal d a) (formal d b) (formal d c) i
formal d (sum_comm a b i) = sum_comm (formal d a) (formal d b) i
formal d (nought-sum a i) = nought-sum (formal d a) i
formal d (negation-sum a i) = negation-sum (formal d a) i
formal d (product-assoc a b c i) = assoc-derived polynomials a b c (formal d a) (formal d b) (formal d c) i
formal d (product-comm a b i) = comm-derived polynomials a b (formal d a) (formal d b) i
formal d (unit-product a i) = unit-derived polynomials a (formal d a) i
formal d (distributive a b c i) = distributive-derived polynomials a b c (formal d a) (formal d b) (formal d c) i
formal d (hub f) = rec_hub Polynomial polynomials-set f (λ s. formal d (f s))
formal d (spoke s f i) = rec_spoke Polynomial polynomials-set s f (λ s. formal d (f s)) i

pub formal-rules : (d : Direction) → Derivation polynomials (formal d)
formal-rules d = record { sum-rule = λ a b. refl; product-rule = λ a b. refl }

pub formal-derives : Derives polynomials formal variable
formal-derives = record { rules = formal-rules; variables = λ d q. refl }

-- a function of a tenfold choice
branches : {A B : Type 0} (f : A → B) (b₀ b₁ b₂ b₃ b₄ b₅ b₆ b₇ b₈ b₉ : Bool) (m₀ m₁ m₂ m₃ m₄ m₅ m₆ m₇ m₈ m₉ m₁₀ : A) →
    f (cond b₀ m₀ (cond b₁ m₁ (cond b₂ m₂ (cond b₃ m₃ (cond b₄ m₄ (cond b₅ m₅ (cond b₆ m₆ (cond b₇ m₇ (cond b₈ m₈ (cond b₉ m₉ m₁₀))))))))))
    ≡ cond b₀ (f m₀) (cond b₁ (f m₁) (cond b₂ (f m₂) (cond b₃ (f m₃) (cond b₄ (f m₄) (cond b₅ (f m₅) (cond b₆ (f m₆) (cond b₇ (f m₇) (cond b₈ (f m₈) (cond b₉ (f m₉) (f m₁₀))))))))))
branches f true _ _ _ _ _ _ _ _ _ _ _ _ _ _ _ _ _ _ _ _ = refl
branches f false true _ _ _ _ _ _ _ _ _ _ _ _ _ _ _ _ _ _ _ = refl
branches f false false true _ _ _ _ _ _ _ _ _ _ _ _ _ _ _ _ _ _ = refl
branches f false false false true _ _ _ _ _ _ _ _ _ _ _ _ _ _ _ _ _ = refl
branches f false false false false true _ _ _ _ _ _ _ _ _ _ _ _ _ _ _ _ = refl
branches f false false false false false true _ _ _ _ _ _ _ _ _ _ _ _ _ _ _ = refl
branches f false false false false false false true _ _ _ _ _ _ _ _ _ _ _ _ _ _ = refl
branches f false false false false false false false true _ _ _ _ _ _ _ _ _ _ _ _ _ = refl
branches f false false false false false false false false true _ _ _ _ _ _ _ _ _ _ _ _ = refl
branches f false false false false false false false false false true _ _ _ _ _ _ _ _ _ _ _ = refl
branches f false false false false false false false false false false _ _ _ _ _ _ _ _ _ _ _ = refl

-- ---- the value at a point
module _ {R : Type 0} (C : CommRing R) (v : Variable → R) where
  abbrev set : IsSet R
  set = C.is_comm_ring.is_ring.is_semiring.is_non_unital_semiring.is_non_unital_non_assoc_semiring.is_add_comm_monoid.is_add_monoid.is_add_semigroup.is_set

  abbrev pub value : Polynomial → R
  value (variable q) = v q
  value nought = C.zero
  value unit = C.one
  value (sum a b) = C.add (value a) (value b)
  value (product a b) = C.mul (value a) (value b)
  value (negation a) = C.neg (value a)
  value (sum-assoc a b c i) = add_assoc C (value a) (value b) (value c) i
  value (sum_comm a b i) = add_comm C (value a) (value b) i
  value (nought-sum a i) = zero-add C (value a) i
  value (negation-sum a i) = neg-add C (value a) i
  value (product-assoc a b c i) = mul_assoc C (value a) (value b) (value c) i
  value (product-comm a b i) = mul_comm C (value a) (value b) i
  value (unit-product a i) = one-mul C (value a) i
  value (distributive a b c i) = add-mul C (value a) (value b) (value c) i
  value (hub f) = rec_hub Polynomial set f (λ s. value (f s))
  value (spoke s f i) = rec_spoke Polynomial set s f (λ s. value (f s)) i

  -- values of matrices
  abbrev P : Arithmetic Polynomial
  P = ring polynomials

  by-axis : (x y z : ℕ) (a : Three Polynomial) (s c k : Polynomial) →
      each value (by_axis P x y z a s c k) ≡ by_axis (ring C) x y z (three (value a.x) (value a.y) (value a.z)) (value s) (value c) (value k)
  by-axis x y z a s c k =
      branches (each value) (same x y z 0 0 0) (same x y z 1 0 0) (same x y z 0 1 0) (same x y z 0 0 1)
      (same x y z 2 0 0) (same x y z 0 2 0) (same x y z 0 0 2) (same x y z 0 1 1) (same x y z 1 0 1) (same x y z 1 1 0)
      (rodrigues P a s c k) (by_x P a s k) (by_y P a s k) (by_z P a s k)
      (symmetric (product (sum unit unit) k) nought nought nought nought nought)
      (symmetric nought nought nought (product (sum unit unit) k) nought nought)
      (symmetric nought nought nought nought nought (product (sum unit unit) k))
      (symmetric nought nought nought nought k nought)
      (symmetric nought nought k nought nought nought)
      (symmetric nought k nought nought nought nought)
      (zeros P)

  quarters : (n : ℕ) (s c : Polynomial) → sine_cosine (value (by_quarters P n s c).s) (value (by_quarters P n s c).c) ≡ by_quarters (ring C) n (value s) (value c)
  quarters zero s c = refl
  quarters (suc zero) s c = refl
  quarters (suc (suc zero)) s c = refl
  quarters (suc (suc (suc n))) s c = refl

  constants : (n : ℕ) → value (constant P n) ≡ constant (ring C) n
  constants zero = refl
  constants (suc n) = refl

  rotations : (i j k n : ℕ) → each value (rotation P i j k n (axis variable) (variable Sine) (variable Cosine)) ≡ rotation (ring C) i j k n (axis v) (v Sine) (v Cosine)
  rotations i j k n =
      let p = turned P n (variable Sine) (variable Cosine) in
      by-axis i j k (axis variable) p.s p.c (sum (negation p.c) (constant P n))
      ∙ (λ t.
      let q = quarters (n % 4) (variable Sine) (variable Cosine) t in
      by_axis (ring C) i j k (axis v) q.s q.c (C.add (C.neg q.c) (constants n t)))

  pub derivatives-at : (i j k n : ℕ) →
      each (λ e. value (partial formal i j k n e)) (formula (ring polynomials) (axis variable) (variable Sine) (variable Cosine))
      ≡ rotation (ring C) i j k n (axis v) (v Sine) (v Cosine)
  derivatives-at i j k n = ap (each value) (derivatives polynomials formal-derives i j k n) ∙ rotations i j k n
