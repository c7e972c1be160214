-- What is said of derivatives: a commutative ring's operations, a derivation of the ring, a matrix derived entry by entry, and derived again and
-- again. And what a derivation makes of zero, one and negations. Assumes nothing.
use Rattle.std.proofs.Common.{ℕ, zero, suc, ◌≡◌, refl, sym, ◌∙◌, ap}
use mathlib.Mathlib.Algebra.Ring.Defs.{CommRing}
use Rattle.rodrigues.specs.Rodrigues.{Arithmetic, Nine, nine, zeros}
use Rattle.rodrigues.proofs.Ring.{zero-add, mul-one, add-neg, neg_unique, neg-zero, own-double, laws}

-- 2 is 1 + 1, and a − b is a + (−b)
abbrev pub ring : {R : Type 0} → CommRing R → Arithmetic R
ring C = record {
  zero = C.zero;
  one = C.one;
  two = C.add C.one C.one;
  plus = C.add;
  minus = λ a b. C.add a (C.neg b);
  times = C.mul;
  negated = C.neg;
}

-- it keeps sums, and has Leibniz's product rule
pub record Derivation {R : Type 0} (C : CommRing R) (D : R → R) : Type 0 where
  pub sum-rule : (a b : R) → D (C.add a b) ≡ C.add (D a) (D b)
  pub product-rule : (a b : R) → D (C.mul a b) ≡ C.add (C.mul (D a) b) (C.mul a (D b))

abbrev pub each : {A B : Type 0} → (A → B) → Nine A → Nine B
each f m =
    nine (f m.c0.x) (f m.c0.y) (f m.c0.z) (f m.c1.x) (f m.c1.y) (f m.c1.z) (f m.c2.x) (f m.c2.y) (f m.c2.z)

abbrev pub repeated : {A : Type 0} → ℕ → (A → A) → A → A
repeated zero f a = a
repeated (suc n) f a = repeated n f (f a)

-- matrices are equal where their entries are
pub same-nine : {A : Type 0} {a b c d e f g h i a' b' c' d' e' f' g' h' i' : A} → a ≡ a' → b ≡ b' → c ≡ c' → d ≡ d' → e ≡ e' → f ≡ f' → g ≡ g' → h ≡ h' → i ≡ i' →
    nine a b c d e f g h i ≡ nine a' b' c' d' e' f' g' h' i'
same-nine p q r s t u v w x = λ j. nine (p j) (q j) (r j) (s j) (t j) (u j) (v j) (w j) (x j)

module _ {R : Type 0} (C : CommRing R) {D : R → R} (d : Derivation C D) where
  infixl 6 ◌⊕◌
  infixl 7 ◌⊗◌
  open C use {add as ◌⊕◌, mul as ◌⊗◌, zero as 𝟘, neg as neg, one as 𝟙}
  open d use {sum-rule as sums, product-rule as products}

  pub of_zero : D 𝟘 ≡ 𝟘
  of_zero = own-double C (D 𝟘) (ap D (sym (zero-add C 𝟘)) ∙ sums 𝟘 𝟘)

  pub of_one : D 𝟙 ≡ 𝟘
  of_one = own-double C (D 𝟙) (ap D (sym (mul-one C 𝟙)) ∙ products 𝟙 𝟙 ∙ simp laws)

  pub of-neg : (a : R) → D (neg a) ≡ neg (D a)
  of-neg a = neg_unique C (D a) (D (neg a)) (sym (sums a (neg a)) ∙ ap D (add-neg C a) ∙ of_zero)

  pub of-neg-zero : {a : R} → D a ≡ 𝟘 → D (neg a) ≡ 𝟘
  of-neg-zero {a} e = of-neg a ∙ ap neg e ∙ neg-zero C

  pub of-sum-zero : {a b : R} → D a ≡ 𝟘 → D b ≡ 𝟘 → D (a ⊕ b) ≡ 𝟘
  of-sum-zero e f = simp (sums, e, f, laws)

  pub of-zeros : each D (zeros (ring C)) ≡ zeros (ring C)
  of-zeros =
      let o = of_zero in
      same-nine o o o o o o o o o

  pub zeros-stay : (n : ℕ) → each (repeated n D) (zeros (ring C)) ≡ zeros (ring C)
  zeros-stay zero = refl
  zeros-stay (suc n) = ap (each (repeated n D)) of-zeros ∙ zeros-stay n
