-- Entries that are formed one after the other: those before are what has been formed. A step that keeps a relation between entries, which may
-- depend on their place, has it for all of them. Assumes nothing.
use Rattle.std.proofs.Common.{◌≡◌, refl, sym, ap, ◌∙◌, subst, subst₂, Bool, cond, ⊎_elim, ℕ, zero, suc, ◌+◌, ◌-◌, ◌<◌, ◌≤◌, le_refl, not-suc-le-zero, eq-or-lt_of_le, le_of_suc-le-suc, arith, eq-eqb, ne_eqb}
use Rattle.calculus.specs.Rising.{before, rising, with_row, rising_row, before_entry, rising_rows}

module _ {X : Type 0} (blank : X) (step : (ℕ → X) → ℕ → X) where
  pub before-below : (n j : ℕ) → j < n → before blank step n j ≡ rising blank step j
  unfolding before
  before-below zero j h = absurd (not-suc-le-zero h)
  before-below (suc n) j h =
      ⊎_elim
      (λ e. ap (λ (t : Bool). cond t (rising blank step n) (before blank step n j)) (eq-eqb j n e) ∙ ap (rising blank step) (sym e))
      (λ l. ap (λ (t : Bool). cond t (rising blank step n) (before blank step n j)) (ne_eqb j n (λ e. omega arith)) ∙ before-below n j l)
      (eq-or-lt_of_le (le_of_suc-le-suc h))

  pub before_above : (n j : ℕ) → n ≤ j → before blank step n j ≡ blank
  unfolding before
  before_above zero j h = refl
  before_above (suc n) j h =
      ap (λ (t : Bool). cond t (rising blank step n) (before blank step n j)) (ne_eqb j n (λ e. omega arith)) ∙ before_above n j (omega arith)

module _ {X Y : Type 0} (P : ℕ → X → Y → Type 0) (bx : X) (by : Y) (s : (ℕ → X) → ℕ → X) (t : (ℕ → Y) → ℕ → Y) (n : ℕ)
    (h : (m : ℕ) → m < n → (f : ℕ → X) (g : ℕ → Y) → ((i : ℕ) → i < m → P i (f i) (g i)) → P m (s f m) (t g m)) where
  up_to : (k : ℕ) → k ≤ n → (j : ℕ) → j < k → P j (rising bx s j) (rising by t j)
  up_to zero l j b = absurd (not-suc-le-zero b)
  up_to (suc k) l j b =
      ⊎_elim
      (λ e. subst (λ (x : ℕ). P x (rising bx s x) (rising by t x)) (sym e)
      (h k l (before bx s k) (before by t k) (λ i c. subst₂ (P i) (sym (before-below bx s k i c)) (sym (before-below by t k i c)) (up_to k (omega arith) i c))))
      (λ c. up_to k (omega arith) j c)
      (eq-or-lt_of_le (le_of_suc-le-suc b))

  pub rising-alike : (m : ℕ) → m < n → P m (rising bx s m) (rising by t m)
  rising-alike = up_to n (le_refl n)

-- ---- two indices
module _ {X : Type 0} (rows : ℕ → ℕ → X) (m : ℕ) (q : ℕ → X) where
  pub in_row : (j : ℕ) → with_row rows m q m j ≡ q j
  in_row j = ap (λ (t : Bool). cond t (q j) (rows m j)) (eq-eqb m m refl)

  pub off-row : (i j : ℕ) → ¬ (i ≡ m) → with_row rows m q i j ≡ rows i j
  off-row i j h = ap (λ (t : Bool). cond t (q j) (rows i j)) (ne_eqb i m h)

module _ {X : Type 0} (blank : X) (step : (ℕ → ℕ → X) → ℕ → ℕ → X) (m n : ℕ) where
  abbrev rows : ℕ → ℕ → X
  rows = before (λ j. blank) (rising_row blank step) m

  abbrev row : ℕ → X
  row = before blank (λ q k. step (with_row rows m q) m k) n

  -- the entries before [m][n] are those of lower rows, and those of the row m below n
  pub earlier-row : (i j : ℕ) → i < m → before_entry blank step m n i j ≡ rising_rows blank step i j
  earlier-row i j h = off-row rows m row i j (λ e. omega arith) ∙ ap (λ (r : ℕ → X). r j) (before-below (λ j. blank) (rising_row blank step) m i h)

  pub same_row : (j : ℕ) → j < n → before_entry blank step m n m j ≡ rising_rows blank step m j
  same_row j h = in_row rows m row j ∙ before-below blank (λ q k. step (with_row rows m q) m k) n j h

  pub later-row : (i j : ℕ) → m < i → before_entry blank step m n i j ≡ blank
  later-row i j h = off-row rows m row i j (λ e. omega arith) ∙ ap (λ (r : ℕ → X). r j) (before_above (λ j. blank) (rising_row blank step) m i (omega arith))

  pub later-entry : (j : ℕ) → n ≤ j → before_entry blank step m n m j ≡ blank
  later-entry j h = in_row rows m row j ∙ before_above blank (λ q k. step (with_row rows m q) m k) n j h

module _ {X Y : Type 0} (P : ℕ → ℕ → X → Y → Type 0) (bx : X) (by : Y) (s : (ℕ → ℕ → X) → ℕ → ℕ → X) (t : (ℕ → ℕ → Y) → ℕ → ℕ → Y) (n : ℕ)
    (h : (i j : ℕ) → i + j ≤ n → (f : ℕ → ℕ → X) (g : ℕ → ℕ → Y) →
    ((k l : ℕ) → k < i → k + l ≤ n → P k l (f k l) (g k l)) → ((l : ℕ) → l < j → P i l (f i l) (g i l)) → P i j (s f i j) (t g i j)) where
  -- the rows i, as far as the order n goes
  abbrev RowsAlike : ℕ → (ℕ → X) → (ℕ → Y) → Type 0
  RowsAlike i p q = (j : ℕ) → i + j ≤ n → P i j (p j) (q j)

  row-alike : (i : ℕ) → i < suc n → (f : ℕ → ℕ → X) (g : ℕ → ℕ → Y) → ((k : ℕ) → k < i → RowsAlike k (f k) (g k)) →
      RowsAlike i (rising_row bx s f i) (rising_row by t g i)
  row-alike i l f g r j b =
      rising-alike (P i) bx by (λ q k. s (with_row f i q) i k) (λ q k. t (with_row g i q) i k) (suc (n - i))
      (λ k c p q e.
      h i k (omega arith) (with_row f i p) (with_row g i q)
      (λ x y d w. subst₂ (P x y) (sym (off-row f i p x y (λ z. omega arith))) (sym (off-row g i q x y (λ z. omega arith))) (r x d y w))
      (λ y d. subst₂ (P i y) (sym (in_row f i p y)) (sym (in_row g i q y)) (e y d)))
      j (omega arith)

  pub rising_rows-alike : (i j : ℕ) → i + j ≤ n → P i j (rising_rows bx s i j) (rising_rows by t i j)
  rising_rows-alike i j b = rising-alike RowsAlike (λ j. bx) (λ j. by) (rising_row bx s) (rising_row by t) (suc n) row-alike i (omega arith) j b
