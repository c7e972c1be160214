-- The formulas on jets keep a relation that the operations of two kinds keep: results are related as far as the jets are. Assumes nothing.
use Rattle.std.proofs.Common.{sym, subst₂, ℕ, suc, ◌+◌, ◌-◌, ◌*◌, ◌<◌, ◌≤◌, arith}
use native.Mathlib.Nat.{sub-zero}
use Rattle.calculus.specs.Kind.{Kind, Module, regular}
use Rattle.calculus.specs.Rising.{before, before_entry}
use Rattle.calculus.specs.Choose.{choose}
use Rattle.calculus.specs.Curve
use Rattle.calculus.specs.Surface
use Rattle.calculus.proofs.Related.{Related, RelatedModules, regulars, CurvesAlike, SurfacesAlike, in_turn-alike, in_rows-alike}
use Rattle.calculus.proofs.Rising.{before-below, rising-alike, earlier-row, same_row, rising_rows-alike}

-- ---- derivatives: of any entries
module _ {A B : Type 0} (R : A → B → Type 0) where
  pub derivative-alike : (n : ℕ) {a : ℕ → A} {b : ℕ → B} → CurvesAlike R (suc n) a b → CurvesAlike R n (Curve.derivative a) (Curve.derivative b)
  derivative-alike n h i l = h (suc i) (omega arith)

  pub derivative_u-alike : (n : ℕ) {a : ℕ → ℕ → A} {b : ℕ → ℕ → B} → SurfacesAlike R (suc n) a b → SurfacesAlike R n (Surface.derivative_u a) (Surface.derivative_u b)
  derivative_u-alike n h i j l = h (suc i) j (omega arith)

  pub derivative_v-alike : (n : ℕ) {a : ℕ → ℕ → A} {b : ℕ → ℕ → B} → SurfacesAlike R (suc n) a b → SurfacesAlike R n (Surface.derivative_v a) (Surface.derivative_v b)
  derivative_v-alike n h i j l = h i (suc j) (omega arith)

-- ---- sums, differences, and products by any pairing
module _ {S T A B : Type 0} (P : S → T → Type 0) (R : A → B → Type 0) (M : Module S A) (N : Module T B) (r : RelatedModules P R M N) (n : ℕ) where
  module _ {a c : ℕ → A} {b d : ℕ → B} (p : CurvesAlike R n a b) (q : CurvesAlike R n c d) where
    pub sum_alike : CurvesAlike R n (Curve.sum M a c) (Curve.sum N b d)
    sum_alike i l = r.plus _ _ _ _ (p i l) (q i l)

    pub difference-alike : CurvesAlike R n (Curve.difference M a c) (Curve.difference N b d)
    difference-alike i l = r.minus _ _ _ _ (p i l) (q i l)

  module _ {a c : ℕ → ℕ → A} {b d : ℕ → ℕ → B} (p : SurfacesAlike R n a b) (q : SurfacesAlike R n c d) where
    pub surface-sum-alike : SurfacesAlike R n (Surface.sum M a c) (Surface.sum N b d)
    surface-sum-alike i j l = r.plus _ _ _ _ (p i j l) (q i j l)

    pub surface-difference-alike : SurfacesAlike R n (Surface.difference M a c) (Surface.difference N b d)
    surface-difference-alike i j l = r.minus _ _ _ _ (p i j l) (q i j l)

  module _ {C D E F : Type 0} (Q : C → D → Type 0) (W : E → F → Type 0) (f : C → E → A) (g : D → F → B)
      (pairs : (a : C) (c : E) (b : D) (d : F) → Q a b → W c d → R (f a c) (g b d)) where
    pub product_by-alike : (a : ℕ → C) (c : ℕ → E) (b : ℕ → D) (d : ℕ → F) → CurvesAlike Q n a b → CurvesAlike W n c d →
        CurvesAlike R n (Curve.product_by M f a c) (Curve.product_by N g b d)
    product_by-alike a c b d p q m l =
        in_turn-alike R R M.plus N.plus (λ a c b d. r.plus a c b d) (Curve.leibniz M f a c m) (Curve.leibniz N g b d m) (suc m) r.zero
        (λ i k. r.scale _ _ _ _ (pairs _ _ _ _ (p i (omega arith)) (q (m - i) (omega arith))) (r.of_nat (choose m i)))

    pub surface-product_by-alike : (a : ℕ → ℕ → C) (c : ℕ → ℕ → E) (b : ℕ → ℕ → D) (d : ℕ → ℕ → F) → SurfacesAlike Q n a b → SurfacesAlike W n c d →
        SurfacesAlike R n (Surface.product_by M f a c) (Surface.product_by N g b d)
    surface-product_by-alike a c b d p q m k l =
        in_rows-alike R R M.plus N.plus (λ a c b d. r.plus a c b d) (Surface.leibniz M f a c m k) (Surface.leibniz N g b d m k) (suc m) (suc k) r.zero
        (λ i j v w. r.scale _ _ _ _ (pairs _ _ _ _ (p i j (omega arith)) (q (m - i) (k - j) (omega arith))) (r.of_nat (choose m i * choose k j)))

-- ---- products and quotients of numbers
module _ {A B : Type 0} (R : A → B → Type 0) (K : Kind A) (L : Kind B) (r : Related R K L) (n : ℕ) where
  module _ (a c : ℕ → A) (b d : ℕ → B) (p : CurvesAlike R n a b) (q : CurvesAlike R n c d) where
    pub product-alike : CurvesAlike R n (Curve.product K a c) (Curve.product L b d)
    product-alike = product_by-alike R R (regular K) (regular L) (regulars r) n R R K.times L.times r.times a c b d p q

    -- what is left for an entry of the quotient, where the entries before it are related
    pub dividend-alike : (m : ℕ) → m ≤ n → (f : ℕ → A) (g : ℕ → B) → ((i : ℕ) → i < m → R (f i) (g i)) → R (Curve.dividend K a c f m) (Curve.dividend L b d g m)
    dividend-alike m l f g h =
        in_turn-alike R R K.minus L.minus r.minus
        (λ i. Curve.leibniz (regular K) K.times c f m (suc i)) (λ i. Curve.leibniz (regular L) L.times d g m (suc i)) m (p m l)
        (λ i k. r.times _ _ _ _ (r.times _ _ _ _ (q (suc i) (omega arith)) (h (m - suc i) (omega arith))) (r.of_nat (choose m (suc i))))

    pub quotient-alike : CurvesAlike R n (Curve.quotient K a c) (Curve.quotient L b d)
    quotient-alike m l =
        rising-alike (λ i. R) K.zero L.zero (Curve.quotient_entry K a c) (Curve.quotient_entry L b d) (suc n)
        (λ m l f g h. r.over _ _ _ _ (dividend-alike m (omega arith) f g h) (q 0 (omega arith))) m (omega arith)

    -- what is divided, at each entry
    pub quotient-dividend-alike : CurvesAlike R n (Curve.quotient_dividend K a c) (Curve.quotient_dividend L b d)
    quotient-dividend-alike m l =
        dividend-alike m l (before K.zero (Curve.quotient_entry K a c) m) (before L.zero (Curve.quotient_entry L b d) m)
        (λ i k. subst₂ R (sym (before-below K.zero (Curve.quotient_entry K a c) m i k)) (sym (before-below L.zero (Curve.quotient_entry L b d) m i k))
        (quotient-alike i (omega arith)))

  module _ (a c : ℕ → ℕ → A) (b d : ℕ → ℕ → B) (p : SurfacesAlike R n a b) (q : SurfacesAlike R n c d) where
    pub surface-product-alike : SurfacesAlike R n (Surface.product K a c) (Surface.product L b d)
    surface-product-alike = surface-product_by-alike R R (regular K) (regular L) (regulars r) n R R K.times L.times r.times a c b d p q

    pub surface-dividend-alike : (m k : ℕ) → m + k ≤ n → (f : ℕ → ℕ → A) (g : ℕ → ℕ → B) →
        ((i j : ℕ) → i < m → i + j ≤ n → R (f i j) (g i j)) → ((j : ℕ) → j < k → R (f m j) (g m j)) → R (Surface.dividend K a c f m k) (Surface.dividend L b d g m k)
    surface-dividend-alike m k l f g above left =
        in_rows-alike R R K.minus L.minus r.minus
        (λ i. Surface.leibniz (regular K) K.times c f m k (suc i)) (λ i. Surface.leibniz (regular L) L.times d g m k (suc i)) m (suc k)
        (in_turn-alike R R K.minus L.minus r.minus
        (λ j. Surface.leibniz (regular K) K.times c f m k 0 (suc j)) (λ j. Surface.leibniz (regular L) L.times d g m k 0 (suc j)) k (p m k l)
        (λ j w. term 0 (suc j) (omega arith) (omega arith) (in_row (k - suc j) (omega arith))))
        (λ i j v w. term (suc i) j (omega arith) (omega arith) (above (m - suc i) (k - j) (omega arith) (omega arith)))
      where
        term : (i j : ℕ) → i ≤ m → j ≤ k → R (f (m - i) (k - j)) (g (m - i) (k - j)) →
            R (Surface.leibniz (regular K) K.times c f m k i j) (Surface.leibniz (regular L) L.times d g m k i j)
        term i j v w e = r.times _ _ _ _ (r.times _ _ _ _ (q i j (omega arith)) e) (r.of_nat (choose m i * choose k j))

        in_row : (j : ℕ) → j < k → R (f (m - 0) j) (g (m - 0) j)
        in_row j w = rw sub-zero (left j w)

    pub surface-quotient-alike : SurfacesAlike R n (Surface.quotient K a c) (Surface.quotient L b d)
    surface-quotient-alike =
        rising_rows-alike (λ i j. R) K.zero L.zero (Surface.quotient_entry K a c) (Surface.quotient_entry L b d) n
        (λ i j l f g above left. r.over _ _ _ _ (surface-dividend-alike i j l f g above left) (q 0 0 (omega arith)))

    pub surface-quotient-dividend-alike : SurfacesAlike R n (Surface.quotient_dividend K a c) (Surface.quotient_dividend L b d)
    surface-quotient-dividend-alike m k l =
        surface-dividend-alike m k l (before_entry K.zero s m k) (before_entry L.zero t m k)
        (λ i j v w. subst₂ R (sym (earlier-row K.zero s m k i j v)) (sym (earlier-row L.zero t m k i j v)) (surface-quotient-alike i j w))
        (λ j v. subst₂ R (sym (same_row K.zero s m k j v)) (sym (same_row L.zero t m k j v)) (surface-quotient-alike m j (omega arith)))
      where
        s : (ℕ → ℕ → A) → ℕ → ℕ → A
        s = Surface.quotient_entry K a c

        t : (ℕ → ℕ → B) → ℕ → ℕ → B
        t = Surface.quotient_entry L b d
