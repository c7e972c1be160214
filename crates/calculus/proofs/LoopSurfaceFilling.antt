-- A loop that stores the entries of a surface's jet of order N, i rising, then j, at their graded places in an array of w. Assumes nothing.
use Rattle.std.proofs.Common.{◌≡◌, refl, sym, ap, ap₂, ◌∙◌, subst₂, Bool, cond, List, ◌⊎◌, inl, inr, ⊎_elim, ℕ, suc, ◌+◌, ◌<◌, ◌≤◌, not-suc-le-zero, lt_irrefl, arith, ltb, get_or, set, replicate, lt-ltb, le-ltb}
use native.Mathlib.Decide.{ℕ_discrete, dec_lt}
use Rattle.calculus.specs.Rising.{before_entry, rising_rows}
use Rattle.calculus.specs.Graded.{triangle, index, place, graded}
use Rattle.calculus.specs.Array.{filled, surface_array}
use Rattle.calculus.proofs.Rising.{earlier-row, same_row, later-row, later-entry}
use Rattle.calculus.proofs.Graded.{index_below, index-only, index-231, index-place, place-first, place-second, place-order}
use Rattle.calculus.proofs.LoopFilling.{Stored, stored-none, stored_more, stored-as, stored-all, filled_at}

-- the entries up to the order N that come before [m][n]
abbrev pub Earlier : ℕ → ℕ → ℕ → ℕ → ℕ → Type 0
Earlier N m n i j = (i + j ≤ N) × ((i < m) ⊎ ((i ≡ m) × (j < n)))

module _ (N m n i j : ℕ) where
  earlier_more : Earlier N m n i j → Earlier N m (n + 1) i j
  earlier_more h = (h.0, ⊎_elim (λ l. inl l) (λ p. inr (p.0, omega (arith, p.1))) h.1)

  earlier-only : Earlier N m (n + 1) i j → ¬ ((i ≡ m) × (j ≡ n)) → Earlier N m n i j
  earlier-only h no_more = (h.0, ⊎_elim (λ l. inl l) (λ p. inr (p.0, under p (ℕ_discrete j n))) h.1)
    where
      under : (i ≡ m) × (j < n + 1) → Dec (j ≡ n) → j < n
      under p (yes e) = absurd (no_more (p.0, e))
      under p (no e) = omega (arith, p.1)

  row_ends : N < m + n → Earlier N (m + 1) 0 i j → Earlier N m n i j
  row_ends h e = (e.0, ⊎_elim (λ l. by (ℕ_discrete i m) l) (λ p. absurd (not-suc-le-zero p.1)) e.1)
    where
      by : Dec (i ≡ m) → i < m + 1 → (i < m) ⊎ ((i ≡ m) × (j < n))
      by (yes q) l = inr (q, omega (arith, e.0))
      by (no q) l = inl (omega arith)

  row-begins : Earlier N m n i j → Earlier N (m + 1) 0 i j
  row-begins e = (e.0, inl (⊎_elim (λ l. omega arith) (λ p. omega (arith, p.0)) e.1))

module _ {X : Type 0} (w : ℕ) (d blank : X) (N : ℕ) (room : triangle (suc N) ≤ w) where
  pub in-room : (i j : ℕ) → i + j ≤ N → index i j < w
  in-room i j h = omega (arith, index_below N i j h)

  module _ (has : ℕ → ℕ → X → Type 0) where
    abbrev pub SurfaceStored : ℕ → ℕ → List X → Type 0
    SurfaceStored m n = Stored w d blank (λ k. has (place k).0 (place k).1) (λ k. Earlier N m n (place k).0 (place k).1)

    pub surface-none : SurfaceStored 0 0 (replicate w blank)
    surface-none =
        stored-none w d blank (λ k. has (place k).0 (place k).1) (λ k. Earlier N 0 0 (place k).0 (place k).1)
        (λ k e. ⊎_elim (λ l. not-suc-le-zero l) (λ p. not-suc-le-zero p.1) e.1)

    pub surface-more : {r : List X} {m n : ℕ} (v : X) → SurfaceStored m n r → m + n ≤ N → has m n v → SurfaceStored m (n + 1) (set r (index m n) v)
    surface-more {r} {m} {n} v s l e =
        stored_more w d blank (λ k. has (place k).0 (place k).1) (λ k. Earlier N m (n + 1) (place k).0 (place k).1) (index m n) v s (in-room m n l)
        (subst₂ (λ (i j : ℕ). has i j v) (sym (place-first m n)) (sym (place-second m n)) e)
        (subst₂ (Earlier N m (n + 1)) (sym (place-first m n)) (sym (place-second m n)) (l, inr (refl, omega arith)))
        (λ k h. earlier_more N m n (place k).0 (place k).1 h)
        (λ k h q. earlier-only N m n (place k).0 (place k).1 h (λ p. q (sym (index-place k) ∙ ap₂ index p.0 p.1)))

    -- the row m is done where n has gone past the order N
    pub surface-next : {r : List X} {m n : ℕ} → SurfaceStored m n r → N < m + n → SurfaceStored (m + 1) 0 r
    surface-next {r} {m} {n} s h =
        stored-as w d blank (λ k. has (place k).0 (place k).1) (λ k. Earlier N (m + 1) 0 (place k).0 (place k).1) s
        (λ k l e. row_ends N m n (place k).0 (place k).1 h e) (λ k l e. row-begins N m n (place k).0 (place k).1 e)

    pub surface-all : (g : ℕ → ℕ → X) → ((i j : ℕ) (v : X) → has i j v → v ≡ g i j) → {r : List X} {m : ℕ} → SurfaceStored m 0 r → N < m →
        r ≡ filled w blank (graded g) (triangle (suc N))
    surface-all g is {r} {m} s h =
        stored-all w d blank (λ k. has (place k).0 (place k).1) (graded g) (λ k v. is (place k).0 (place k).1 v) (triangle (suc N)) s
        (λ k l b. (place-order N k b, inl (omega (arith, place-order N k b))))
        (λ k l e. rw index-place at (index_below N (place k).0 (place k).1 e.0))

    -- what the array holds at [i][j]
    pub surface-held : {r : List X} {m n : ℕ} → SurfaceStored m n r → (i j : ℕ) → Earlier N m n i j → has i j (get_or r (index i j) d)
    surface-held {r} {m} {n} s i j e =
        subst₂ (λ (x y : ℕ). has x y (get_or r (index i j) d)) (place-first i j) (place-second i j)
        (s.held (index i j) (in-room i j e.0) (subst₂ (Earlier N m n) (sym (place-first i j)) (sym (place-second i j)) e))

    pub surface-rest : {r : List X} {m n : ℕ} → SurfaceStored m n r → (i j : ℕ) → index i j < w → ¬ Earlier N m n i j → get_or r (index i j) d ≡ blank
    surface-rest {r} {m} {n} s i j l e = s.rest (index i j) l (λ p. e (subst₂ (Earlier N m n) (place-first i j) (place-second i j) p))

  -- the entries before [m][n], of those that rise, are what the array holds, up to the order N
  module _ {A : Type 0} (into : X → A) (step : (ℕ → ℕ → A) → ℕ → ℕ → A) where
    pub surface-earlier : {r : List X} {m n : ℕ} → SurfaceStored (λ i j v. rising_rows (into blank) step i j ≡ into v) m n r →
        (i j : ℕ) → i + j ≤ N → before_entry (into blank) step m n i j ≡ into (get_or r (index i j) d)
    surface-earlier {r} {m} {n} s i j l = go (dec_lt i m) (ℕ_discrete i m) (dec_lt j n)
      where
        kept : ℕ → ℕ → X → Type 0
        kept i j v = rising_rows (into blank) step i j ≡ into v

        empty : ¬ ((i < m) ⊎ ((i ≡ m) × (j < n))) → into blank ≡ into (get_or r (index i j) d)
        empty h = ap into (sym (surface-rest kept s i j (in-room i j l) (λ e. h e.1)))

        go : Dec (i < m) → Dec (i ≡ m) → Dec (j < n) → before_entry (into blank) step m n i j ≡ into (get_or r (index i j) d)
        go (yes a) b c = earlier-row (into blank) step m n i j a ∙ surface-held kept s i j (l, inl a)
        go (no a) (yes b) (yes c) =
            ap (λ (x : ℕ). before_entry (into blank) step m n x j) b ∙ same_row (into blank) step m n j c
            ∙ ap (λ (x : ℕ). rising_rows (into blank) step x j) (sym b) ∙ surface-held kept s i j (l, inr (b, c))
        go (no a) (yes b) (no c) =
            ap (λ (x : ℕ). before_entry (into blank) step m n x j) b ∙ later-entry (into blank) step m n j (omega arith)
            ∙ empty (λ e. ⊎_elim (λ p. a p) (λ p. c p.1) e)
        go (no a) (no b) c = later-row (into blank) step m n i j (omega arith) ∙ empty (λ e. ⊎_elim (λ p. a p) (λ p. b p.0) e)

-- ---- reading a surface's array of order n
module _ {X : Type 0} (d blank : X) (s : ℕ → ℕ → X) (n i j : ℕ) where
  array-entry : index i j < 231 → get_or (surface_array blank s n) (index i j) d ≡ cond (ltb (index i j) (triangle (suc n))) (s i j) blank
  array-entry h =
      filled_at 231 d blank (graded s) (triangle (suc n)) (index i j) h
      ∙ ap₂ (λ (x y : ℕ). cond (ltb (index i j) (triangle (suc n))) (s x y) blank) (place-first i j) (place-second i j)

  pub array_at : n ≤ 20 → i + j ≤ n → get_or (surface_array blank s n) (index i j) d ≡ s i j
  array_at h l =
      array-entry (index-231 i j (omega arith)) ∙ ap (λ (t : Bool). cond t (s i j) blank) (lt-ltb (index i j) (triangle (suc n)) (index_below n i j l))

  pub array-past : i + j ≤ 20 → n < i + j → get_or (surface_array blank s n) (index i j) d ≡ blank
  array-past h l =
      array-entry (index-231 i j h)
      ∙ ap (λ (t : Bool). cond t (s i j) blank) (le-ltb (index i j) (triangle (suc n)) (past (dec_lt (index i j) (triangle (suc n)))))
    where
      past : Dec (index i j < triangle (suc n)) → triangle (suc n) ≤ index i j
      past (yes b) = absurd (lt_irrefl n (omega (arith, index-only n i j b)))
      past (no b) = omega arith
