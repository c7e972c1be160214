-- Quotients of jets of integers. Where every division along the way is exact, the divisor times the quotient is what was divided; and where
-- that is a product with the divisor, every division is exact and the quotient is the other factor. Assumes nothing.
use Rattle.std.proofs.Common.{◌≡◌, refl, sym, ◌∙◌, ap, ap₂, ℕ, suc, ◌+◌, ◌*◌, ◌≤◌, ◌<◌, arith, ℤ, pos, ◌*ℤ◌}
use native.Mathlib.Nat.{sub-zero}
use lib.Signed.{quot_z, rem_z}
use Rattle.calculus.specs.Kind.{regular, plain}
use Rattle.calculus.specs.Rising.{before, before_entry}
use Rattle.calculus.specs.Choose.{choose}
use Rattle.calculus.specs.Curve
use Rattle.calculus.specs.Surface
use Rattle.calculus.proofs.Ints.{◌⊕◌, ◌⊗◌, neg, sum}
use Rattle.calculus.proofs.Ring.{add_assoc, add_comm, add-neg, add-zero, mul-one, mul_comm, neg-add}
use Rattle.calculus.proofs.Sums.{sum-front}
use Rattle.calculus.proofs.Binom.{choose-first}
use Rattle.calculus.proofs.Related.{same}
use Rattle.calculus.proofs.Rising.{before-below, rising-alike, earlier-row, same_row, rising_rows-alike}
use Rattle.calculus.proofs.Alike.{dividend-alike, surface-dividend-alike}
use Rattle.calculus.proofs.UpTo.{CurvesAgree, SurfacesAgree}
use Rattle.calculus.proofs.Plain.{plus-from-zero, minus-turn, plus-rows, minus-rows}
use Rattle.calculus.proofs.Division.{quot-exact, quot-times}

-- p is the first term y of the rule and the rest r of it
balance : (x y r p : ℤ) → p ≡ y ⊕ r → x ≡ p → x ⊕ neg r ≡ y
balance x y r p e h = ap (λ z. z ⊕ neg r) (h ∙ e) ∙ add_assoc y r (neg r) ∙ ap (λ z. y ⊕ z) (add-neg r) ∙ add-zero y

restore : (x y r p : ℤ) → p ≡ y ⊕ r → x ⊕ neg r ≡ y → p ≡ x
restore x y r p e h =
    e ∙ ap (λ z. z ⊕ r) (sym h) ∙ add_assoc x (neg r) r ∙ ap (λ z. x ⊕ z) (add_comm (neg r) r ∙ add-neg r) ∙ add-zero x

-- ---- curves
module _ (d q : ℕ → ℤ) (m : ℕ) where
  term : ℕ → ℤ
  term = Curve.leibniz (regular plain) ◌*ℤ◌ d q m

  rest : ℤ
  rest = sum m (λ i. term (suc i))

  term-zero : term 0 ≡ q m ⊗ d 0
  unfolding term ◌⊗◌
  term-zero = ap₂ (λ (x y : ℕ). (d 0 *ℤ q x) *ℤ pos y) (sub-zero m) (choose-first m) ∙ mul-one (d 0 *ℤ q m) ∙ mul_comm (d 0) (q m)

  product_is : Curve.product plain d q m ≡ q m ⊗ d 0 ⊕ rest
  unfolding term rest
  product_is = plus-from-zero term (suc m) ∙ sum-front m term ∙ ap (λ x. x ⊕ rest) term-zero

  dividend-is : (num : ℕ → ℤ) → Curve.dividend plain num d q m ≡ num m ⊕ neg rest
  unfolding term rest
  dividend-is num = minus-turn (num m) (λ i. term (suc i)) m

dividend-cong : (num d f g : ℕ → ℤ) (m : ℕ) → ((i : ℕ) → i < m → f i ≡ g i) → Curve.dividend plain num d f m ≡ Curve.dividend plain num d g m
dividend-cong num d f g m h = dividend-alike (λ (a b : ℤ). a ≡ b) plain plain (same plain) m num d num d (λ i l. refl) (λ i l. refl) m (omega arith) f g h

module _ (n : ℕ) (num d : ℕ → ℤ) where
  pub exact-product : ((m : ℕ) → m ≤ n → rem_z (Curve.quotient_dividend plain num d m) (d 0) ≡ pos 0) →
      CurvesAgree n (Curve.product plain d (Curve.quotient plain num d)) num
  exact-product h m l =
      restore (num m) (q m ⊗ d 0) (rest d q m) (Curve.product plain d q m) (product_is d q m)
      (sym (dividend-is d q m num)
      ∙ dividend-cong num d q (before (pos 0) (Curve.quotient_entry plain num d) m) m (λ i k. sym (before-below (pos 0) (Curve.quotient_entry plain num d) m i k))
      ∙ sym (quot-times (Curve.quotient_dividend plain num d m) (d 0) (h m l)))
    where
      q : ℕ → ℤ
      q = Curve.quotient plain num d

  module _ (q : ℕ → ℤ) (e : CurvesAgree n num (Curve.product plain d q)) where
    dividend-factor : (m : ℕ) → m ≤ n → Curve.dividend plain num d q m ≡ q m ⊗ d 0
    dividend-factor m l = dividend-is d q m num ∙ balance (num m) (q m ⊗ d 0) (rest d q m) (Curve.product plain d q m) (product_is d q m) (e m l)

    pub quotient-factor : ¬ (d 0 ≡ pos 0) → CurvesAgree n (Curve.quotient plain num d) q
    quotient-factor z m l =
        rising-alike (λ i (x y : ℤ). x ≡ q i) (pos 0) (pos 0) (Curve.quotient_entry plain num d) (Curve.quotient_entry plain num d) (suc n)
        (λ i k f g h. ap (λ x. quot_z x (d 0)) (dividend-cong num d f q i h ∙ dividend-factor i (omega arith)) ∙ quot-exact (q i) (d 0) z) m (omega arith)

    pub quotient-dividend-factor : ¬ (d 0 ≡ pos 0) → (m : ℕ) → m ≤ n → Curve.quotient_dividend plain num d m ≡ q m *ℤ d 0
    unfolding ◌⊗◌
    quotient-dividend-factor z m l =
        dividend-cong num d (before (pos 0) (Curve.quotient_entry plain num d) m) q m
        (λ i k. before-below (pos 0) (Curve.quotient_entry plain num d) m i k ∙ quotient-factor z i (omega arith))
        ∙ dividend-factor m l

-- ---- surfaces
module _ (d q : ℕ → ℕ → ℤ) (m n : ℕ) where
  surface-term : ℕ → ℕ → ℤ
  surface-term = Surface.leibniz (regular plain) ◌*ℤ◌ d q m n

  surface-rest : ℤ
  surface-rest = sum n (λ j. surface-term 0 (suc j)) ⊕ sum m (λ i. sum (suc n) (surface-term (suc i)))

  surface-term-zero : surface-term 0 0 ≡ q m n ⊗ d 0 0
  unfolding surface-term ◌⊗◌
  surface-term-zero =
      ap₂ (λ (x y : ℕ). (d 0 0 *ℤ q x y) *ℤ pos (choose m 0 * choose n 0)) (sub-zero m) (sub-zero n)
      ∙ ap₂ (λ (x y : ℕ). (d 0 0 *ℤ q m n) *ℤ pos (x * y)) (choose-first m) (choose-first n)
      ∙ mul-one (d 0 0 *ℤ q m n) ∙ mul_comm (d 0 0) (q m n)

  surface-product-is : Surface.product plain d q m n ≡ q m n ⊗ d 0 0 ⊕ surface-rest
  unfolding surface-term surface-rest
  surface-product-is =
      plus-rows surface-term (suc m) (suc n)
      ∙ sum-front m (λ i. sum (suc n) (surface-term i))
      ∙ ap (λ x. x ⊕ sum m (λ i. sum (suc n) (surface-term (suc i)))) (sum-front n (surface-term 0) ∙ ap (λ x. x ⊕ sum n (λ j. surface-term 0 (suc j))) surface-term-zero)
      ∙ add_assoc _ _ _

  surface-dividend-is : (num : ℕ → ℕ → ℤ) → Surface.dividend plain num d q m n ≡ num m n ⊕ neg surface-rest
  unfolding surface-term surface-rest
  surface-dividend-is num =
      minus-rows _ (λ i. surface-term (suc i)) m (suc n)
      ∙ ap (λ x. x ⊕ neg (sum m (λ i. sum (suc n) (surface-term (suc i))))) (minus-turn (num m n) (λ j. surface-term 0 (suc j)) n)
      ∙ add_assoc _ _ _
      ∙ ap (λ x. num m n ⊕ x) (sym (neg-add (sum n (λ j. surface-term 0 (suc j))) (sum m (λ i. sum (suc n) (surface-term (suc i))))))

surface-dividend-cong : (num d f g : ℕ → ℕ → ℤ) (N m n : ℕ) → m + n ≤ N → ((i j : ℕ) → i < m → i + j ≤ N → f i j ≡ g i j) → ((j : ℕ) → j < n → f m j ≡ g m j) →
    Surface.dividend plain num d f m n ≡ Surface.dividend plain num d g m n
surface-dividend-cong num d f g N m n l above left =
    surface-dividend-alike (λ (a b : ℤ). a ≡ b) plain plain (same plain) N num d num d (λ i j l. refl) (λ i j l. refl) m n l f g above left

module _ (N : ℕ) (num d : ℕ → ℕ → ℤ) where
  pub surface-exact-product : ((m n : ℕ) → m + n ≤ N → rem_z (Surface.quotient_dividend plain num d m n) (d 0 0) ≡ pos 0) →
      SurfacesAgree N (Surface.product plain d (Surface.quotient plain num d)) num
  surface-exact-product h m n l =
      restore (num m n) (q m n ⊗ d 0 0) (surface-rest d q m n) (Surface.product plain d q m n) (surface-product-is d q m n)
      (sym (surface-dividend-is d q m n num)
      ∙ surface-dividend-cong num d q (before_entry (pos 0) step m n) N m n l
      (λ i j k w. sym (earlier-row (pos 0) step m n i j k)) (λ j k. sym (same_row (pos 0) step m n j k))
      ∙ sym (quot-times (Surface.quotient_dividend plain num d m n) (d 0 0) (h m n l)))
    where
      step : (ℕ → ℕ → ℤ) → ℕ → ℕ → ℤ
      step = Surface.quotient_entry plain num d

      q : ℕ → ℕ → ℤ
      q = Surface.quotient plain num d

  module _ (q : ℕ → ℕ → ℤ) (e : SurfacesAgree N num (Surface.product plain d q)) where
    surface-dividend-factor : (m n : ℕ) → m + n ≤ N → Surface.dividend plain num d q m n ≡ q m n ⊗ d 0 0
    surface-dividend-factor m n l =
        surface-dividend-is d q m n num
        ∙ balance (num m n) (q m n ⊗ d 0 0) (surface-rest d q m n) (Surface.product plain d q m n) (surface-product-is d q m n) (e m n l)

    pub surface-quotient-factor : ¬ (d 0 0 ≡ pos 0) → SurfacesAgree N (Surface.quotient plain num d) q
    surface-quotient-factor z =
        rising_rows-alike (λ i j (x y : ℤ). x ≡ q i j) (pos 0) (pos 0) (Surface.quotient_entry plain num d) (Surface.quotient_entry plain num d) N
        (λ i j l f g above left.
        ap (λ x. quot_z x (d 0 0)) (surface-dividend-cong num d f q N i j l above left ∙ surface-dividend-factor i j l) ∙ quot-exact (q i j) (d 0 0) z)

    pub surface-quotient-dividend-factor : ¬ (d 0 0 ≡ pos 0) → (m n : ℕ) → m + n ≤ N → Surface.quotient_dividend plain num d m n ≡ q m n *ℤ d 0 0
    unfolding ◌⊗◌
    surface-quotient-dividend-factor z m n l =
        surface-dividend-cong num d (before_entry (pos 0) (Surface.quotient_entry plain num d) m n) q N m n l
        (λ i j k w. earlier-row (pos 0) (Surface.quotient_entry plain num d) m n i j k ∙ surface-quotient-factor z i j w)
        (λ j k. same_row (pos 0) (Surface.quotient_entry plain num d) m n j k ∙ surface-quotient-factor z m j (omega arith))
        ∙ surface-dividend-factor m n l
