-- The entries of a jet in the order of work, which is that of lists too: by rising order, and for a surface i rising, then j.
-- Assumes nothing.
use Rattle.std.specs.Prelude.{List, [], ◌∷◌, ◌++◌, ℕ, zero, suc, ◌+◌, ◌-◌}
use Rattle.calculus.specs.Array.{listed}

module _ {X : Type 0} where
  -- the entries up to the order n
  abbrev pub curve_entries : (ℕ → X) → ℕ → List X
  curve_entries a n = listed a 0 (suc n)

  -- k rows, from the row i on: each has as many entries as rows are left
  unfoldable pub rows : (ℕ → ℕ → X) → ℕ → ℕ → List X
  rows s i zero = []
  rows s i (suc k) = listed (s i) 0 (suc k) ++ rows s (suc i) k

  abbrev pub surface_entries : (ℕ → ℕ → X) → ℕ → List X
  surface_entries s n = rows s 0 (suc n)

  -- k entries of two jets side by side, from i on
  unfoldable pub pairs : (ℕ → X) → (ℕ → X) → ℕ → ℕ → List X
  pairs u v i zero = []
  pairs u v i (suc k) = u i ∷ v i ∷ pairs u v (suc i) k

-- how many entries up to the order n stand in the rows before i, and where [i][j] stands among them
unfoldable pub row_start : ℕ → ℕ → ℕ
row_start n zero = 0
row_start n (suc i) = row_start n i + (suc n - i)

abbrev pub list_place : ℕ → ℕ → ℕ → ℕ
list_place n i j = row_start n i + j

-- the list out, of which the first are overwritten by vs, as far as it reaches
unfoldable pub overwritten : {X : Type 0} → List X → List X → List X
overwritten [] out = out
overwritten (v ∷ vs) [] = []
overwritten (v ∷ vs) (x ∷ out) = v ∷ overwritten vs out
