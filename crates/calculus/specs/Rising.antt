-- Entries that are formed one after the other, each from those before it. Assumes nothing.
use Rattle.std.specs.Prelude.{cond, ℕ, zero, suc, eqb}

module _ {X : Type 0} (blank : X) where
  -- the first n entries, and blanks past them
  unfoldable pub before : ((ℕ → X) → ℕ → X) → ℕ → ℕ → X
  before step zero j = blank
  before step (suc n) j =
      let last = step (before step n) n in
      let earlier = before step n j in
      cond (eqb j n) last earlier

  abbrev pub rising : ((ℕ → X) → ℕ → X) → ℕ → X
  rising step m = step (before step m) m

-- Entries of two indices, the first rising, then the second: the rows rise, and so do the entries of each row.
-- the rows, with q in the place of row m
abbrev pub with_row : {X : Type 0} → (ℕ → ℕ → X) → ℕ → (ℕ → X) → ℕ → ℕ → X
with_row rows m q i j = cond (eqb i m) (q j) (rows i j)

module _ {X : Type 0} (blank : X) where
  -- the row m, from the rows before it
  abbrev pub rising_row : ((ℕ → ℕ → X) → ℕ → ℕ → X) → (ℕ → ℕ → X) → ℕ → ℕ → X
  rising_row step rows m = rising blank (λ q n. step (with_row rows m q) m n)

  -- the entries before [m][n]: the rows before m, the first n entries of row m, and blanks past them
  abbrev pub before_entry : ((ℕ → ℕ → X) → ℕ → ℕ → X) → ℕ → ℕ → ℕ → ℕ → X
  before_entry step m n =
      let rows = before (λ j. blank) (rising_row step) m in
      with_row rows m (before blank (λ q k. step (with_row rows m q) m k) n)

  abbrev pub rising_rows : ((ℕ → ℕ → X) → ℕ → ℕ → X) → ℕ → ℕ → X
  rising_rows step m n = step (before_entry step m n) m n
