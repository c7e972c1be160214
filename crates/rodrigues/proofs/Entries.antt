-- The entries of Rodrigues' matrix derived, each a sum of products. Assumes nothing.
use Rattle.std.proofs.Common.{◌≡◌}
use mathlib.Mathlib.Algebra.Ring.Defs.{CommRing}
use Rattle.rodrigues.proofs.Ring.{laws}
use Rattle.rodrigues.proofs.Derivation.{Derivation, of-neg}

module _ {R : Type 0} (C : CommRing R) {D : R → R} (d : Derivation C D) where
  infixl 6 ◌⊕◌
  infixl 7 ◌⊗◌
  open C use {add as ◌⊕◌, mul as ◌⊗◌, zero as 𝟘, neg as neg, one as 𝟙}
  open d use {sum-rule as sums, product-rule as products}

  -- ---- the axis is constant: what is left is linear in s, c and k
  module _ {p q r : R} (dp : D p ≡ 𝟘) (dq : D q ≡ 𝟘) (dr : D r ≡ 𝟘) (k s : R) where
    pub linear-square : (c : R) → D (k ⊗ p ⊗ q ⊕ c) ≡ D k ⊗ p ⊗ q ⊕ D c
    linear-square c = simp (sums, products, dp, dq, laws)

    pub linear-plus : D (k ⊗ p ⊗ q ⊕ s ⊗ r) ≡ D k ⊗ p ⊗ q ⊕ D s ⊗ r
    linear-plus = simp (sums, products, dp, dq, dr, laws)

    pub linear-minus : D (k ⊗ p ⊗ q ⊕ neg (s ⊗ r)) ≡ D k ⊗ p ⊗ q ⊕ neg (D s ⊗ r)
    linear-minus = simp (sums, products, of-neg C d, dp, dq, dr, laws)

  -- ---- s, c and k are constant
  module _ {s c k : R} (ds : D s ≡ 𝟘) (dc : D c ≡ 𝟘) (dk : D k ≡ 𝟘) where
    -- by the component that is squared, by another
    pub own_square : (p : R) → D p ≡ 𝟙 → D (k ⊗ p ⊗ p ⊕ c) ≡ (𝟙 ⊕ 𝟙) ⊗ p ⊗ k
    own_square p dp = simp (sums, products, dc, dk, dp, laws)

    pub other-square : (p : R) → D p ≡ 𝟘 → D (k ⊗ p ⊗ p ⊕ c) ≡ 𝟘
    other-square p dp = simp (sums, products, dc, dk, dp, laws)

    -- by the first of three components, by the second, by the third
    module _ (p q r : R) where
      pub plus-first : D p ≡ 𝟙 → D q ≡ 𝟘 → D r ≡ 𝟘 → D (k ⊗ p ⊗ q ⊕ s ⊗ r) ≡ q ⊗ k
      plus-first dp dq dr = simp (sums, products, ds, dk, dp, dq, dr, laws)

      pub minus-first : D p ≡ 𝟙 → D q ≡ 𝟘 → D r ≡ 𝟘 → D (k ⊗ p ⊗ q ⊕ neg (s ⊗ r)) ≡ q ⊗ k
      minus-first dp dq dr = simp (sums, products, of-neg C d, ds, dk, dp, dq, dr, laws)

      pub plus-second : D p ≡ 𝟘 → D q ≡ 𝟙 → D r ≡ 𝟘 → D (k ⊗ p ⊗ q ⊕ s ⊗ r) ≡ p ⊗ k
      plus-second dp dq dr = simp (sums, products, ds, dk, dp, dq, dr, laws)

      pub minus-second : D p ≡ 𝟘 → D q ≡ 𝟙 → D r ≡ 𝟘 → D (k ⊗ p ⊗ q ⊕ neg (s ⊗ r)) ≡ p ⊗ k
      minus-second dp dq dr = simp (sums, products, of-neg C d, ds, dk, dp, dq, dr, laws)

      pub plus-third : D p ≡ 𝟘 → D q ≡ 𝟘 → D r ≡ 𝟙 → D (k ⊗ p ⊗ q ⊕ s ⊗ r) ≡ s
      plus-third dp dq dr = simp (sums, products, ds, dk, dp, dq, dr, laws)

      pub minus-third : D p ≡ 𝟘 → D q ≡ 𝟘 → D r ≡ 𝟙 → D (k ⊗ p ⊗ q ⊕ neg (s ⊗ r)) ≡ neg s
      minus-third dp dq dr = simp (sums, products, of-neg C d, ds, dk, dp, dq, dr, laws)

  -- the second derivatives
  module _ {k : R} (dk : D k ≡ 𝟘) where
    pub of-double : D ((𝟙 ⊕ 𝟙) ⊗ k) ≡ 𝟘
    of-double = simp (sums, dk, laws)

    module _ {p : R} where
      pub double-own : D p ≡ 𝟙 → D ((𝟙 ⊕ 𝟙) ⊗ p ⊗ k) ≡ (𝟙 ⊕ 𝟙) ⊗ k
      double-own dp = simp (sums, products, dk, dp, laws)

      pub double-other : D p ≡ 𝟘 → D ((𝟙 ⊕ 𝟙) ⊗ p ⊗ k) ≡ 𝟘
      double-other dp = simp (sums, products, dk, dp, laws)

      pub single-own : D p ≡ 𝟙 → D (p ⊗ k) ≡ k
      single-own dp = simp (products, dk, dp, laws)

      pub single-other : D p ≡ 𝟘 → D (p ⊗ k) ≡ 𝟘
      single-other dp = simp (products, dk, dp, laws)
