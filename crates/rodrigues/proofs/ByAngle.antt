-- Rodrigues' matrix derived by the angle: sine and cosine turn by a quarter, again and again. And that they are constant where the angle is.
-- Assumes nothing.
use Rattle.std.proofs.Common.{ℕ, zero, suc, ◌%◌, ◌≡◌, refl, sym, ◌∙◌, ap, arith}
use mathlib.Mathlib.Algebra.Ring.Defs.{CommRing}
use Rattle.rodrigues.specs.Rodrigues.{Arithmetic, Three, sine_cosine, by_quarters, turned, rodrigues, constant}
use Rattle.rodrigues.proofs.Ring.{neg-neg}
use Rattle.rodrigues.proofs.Derivation.{ring, Derivation, each, repeated, same-nine, of_zero, of_one, of-neg, of-neg-zero, of-sum-zero}
use Rattle.rodrigues.proofs.Entries.{linear-square, linear-plus, linear-minus}

module _ {R : Type 0} (C : CommRing R) where
  infixl 6 ◌⊕◌
  open C use {add as ◌⊕◌, zero as 𝟘, neg as neg, one as 𝟙}

  abbrev K : Arithmetic R
  K = ring C

  -- a turn by one quarter before the others
  one_more : (n : ℕ) (s c : R) → turned K n c (neg s) ≡ turned K (suc n) s c
  one_more n s c = go (n % 4) refl
    where
      at : {p q : ℕ} → n % 4 ≡ p → suc n % 4 ≡ q → by_quarters K p c (neg s) ≡ by_quarters K q s c → turned K n c (neg s) ≡ turned K (suc n) s c
      at e f g = ap (λ (k : ℕ). by_quarters K k c (neg s)) e ∙ g ∙ sym (ap (λ (k : ℕ). by_quarters K k s c) f)

      go : (r : ℕ) → n % 4 ≡ r → turned K n c (neg s) ≡ turned K (suc n) s c
      go zero e = let f : suc n % 4 ≡ 1 = omega (arith, e) in at e f refl
      go (suc zero) e = let f : suc n % 4 ≡ 2 = omega (arith, e) in at e f refl
      go (suc (suc zero)) e = let f : suc n % 4 ≡ 3 = omega (arith, e) in at e f (simp (neg-neg C))
      go (suc (suc (suc zero))) e = let f : suc n % 4 ≡ 0 = omega (arith, e) in at e f (simp (neg-neg C))
      go (suc (suc (suc (suc r)))) e = absurd (omega (arith, e))

  module _ {D : R → R} (d : Derivation C D) where
    -- s' = c and c' = −s
    pub quarter-turns : (n : ℕ) {s c : R} → D s ≡ c → D c ≡ neg s → sine_cosine (repeated n D s) (repeated n D c) ≡ turned K n s c
    quarter-turns zero ds dc = refl
    quarter-turns (suc n) {s} {c} ds dc =
        (λ i. sine_cosine (repeated n D (ds i)) (repeated n D (dc i))) ∙ quarter-turns n dc (of-neg C d s ∙ ap neg ds) ∙ one_more n s c

    pub repeated-zero : (n : ℕ) → repeated n D 𝟘 ≡ 𝟘
    repeated-zero zero = refl
    repeated-zero (suc n) = ap (repeated n D) (of_zero C d) ∙ repeated-zero n

    pub repeated-one : (n : ℕ) → repeated n D 𝟙 ≡ constant K n
    repeated-one zero = refl
    repeated-one (suc n) = ap (repeated n D) (of_one C d) ∙ repeated-zero n

    repeated-sum : (n : ℕ) (a b : R) → repeated n D (a ⊕ b) ≡ repeated n D a ⊕ repeated n D b
    repeated-sum zero a b = refl
    repeated-sum (suc n) a b = ap (repeated n D) (d.sum-rule a b) ∙ repeated-sum n (D a) (D b)

    repeated-neg : (n : ℕ) (a : R) → repeated n D (neg a) ≡ neg (repeated n D a)
    repeated-neg zero a = refl
    repeated-neg (suc n) a = ap (repeated n D) (of-neg C d a) ∙ repeated-neg n (D a)

    -- the axis is constant
    module _ (a : Three R) (dx : D a.x ≡ 𝟘) (dy : D a.y ≡ 𝟘) (dz : D a.z ≡ 𝟘) where
      linear : (s c k : R) → each D (rodrigues K a s c k) ≡ rodrigues K a (D s) (D c) (D k)
      linear s c k =
          same-nine
          (linear-square C d dx dx dx k s c) (linear-plus C d dx dy dz k s) (linear-minus C d dx dz dy k s)
          (linear-minus C d dx dy dz k s) (linear-square C d dy dy dy k s c) (linear-plus C d dy dz dx k s)
          (linear-plus C d dx dz dy k s) (linear-minus C d dy dz dx k s) (linear-square C d dz dz dz k s c)

      repeated-linear : (n : ℕ) (s c k : R) → each (repeated n D) (rodrigues K a s c k) ≡ rodrigues K a (repeated n D s) (repeated n D c) (repeated n D k)
      repeated-linear zero s c k = refl
      repeated-linear (suc n) s c k = ap (each (repeated n D)) (linear s c k) ∙ repeated-linear n (D s) (D c) (D k)

      pub by-the-angle : (n : ℕ) {s c : R} → D s ≡ c → D c ≡ neg s →
          each (repeated n D) (rodrigues K a s c (neg c ⊕ 𝟙))
          ≡ rodrigues K a (turned K n s c).s (turned K n s c).c (neg (turned K n s c).c ⊕ constant K n)
      by-the-angle n {s} {c} ds dc =
          let e = quarter-turns n ds dc in
          let ek : repeated n D (neg c ⊕ 𝟙) ≡ neg (turned K n s c).c ⊕ constant K n =
          repeated-sum n (neg c) 𝟙 ∙ (λ i. (repeated-neg n c ∙ (λ j. neg (e j).c)) i ⊕ repeated-one n i) in
          repeated-linear n s c (neg c ⊕ 𝟙) ∙ (λ i. rodrigues K a (e i).s (e i).c (ek i))

  -- s and c are constant: so is what turns make of them
  module _ {D : R → R} (d : Derivation C D) {s c : R} (ds : D s ≡ 𝟘) (dc : D c ≡ 𝟘) where
    pub constant-sine : (n : ℕ) → D (by_quarters K n s c).s ≡ 𝟘
    constant-sine zero = ds
    constant-sine (suc zero) = dc
    constant-sine (suc (suc zero)) = of-neg-zero C d ds
    constant-sine (suc (suc (suc n))) = of-neg-zero C d dc

    pub constant-cosine : (n : ℕ) → D (by_quarters K n s c).c ≡ 𝟘
    constant-cosine zero = dc
    constant-cosine (suc zero) = of-neg-zero C d ds
    constant-cosine (suc (suc zero)) = of-neg-zero C d dc
    constant-cosine (suc (suc (suc n))) = ds

    constant-one : (n : ℕ) → D (constant K n) ≡ 𝟘
    constant-one zero = of_one C d
    constant-one (suc n) = of_zero C d

    pub constant-k : (n : ℕ) → D (neg (turned K n s c).c ⊕ constant K n) ≡ 𝟘
    constant-k n = of-sum-zero C d (of-neg-zero C d (constant-cosine (n % 4))) (constant-one n)
