-- An array as a list: its first entries, and a blank past them. Assumes nothing.
use Rattle.std.specs.Prelude.{cond, List, [], ◌∷◌, ℕ, zero, suc, ltb}
use Rattle.calculus.specs.Graded.{triangle, graded}

module _ {X : Type 0} where
  -- the n values f i, f (i + 1), ..
  unfoldable pub listed : (ℕ → X) → ℕ → ℕ → List X
  listed f i zero = []
  listed f i (suc n) = f i ∷ listed f (suc i) n

  -- an array of w entries, of which the first n are f's
  abbrev pub filled : ℕ → X → (ℕ → X) → ℕ → List X
  filled w blank f n = listed (λ k. cond (ltb k n) (f k) blank) 0 w

  -- the entries up to the order n, of a curve with room for 20 orders, and of a surface
  abbrev pub curve_array : X → (ℕ → X) → ℕ → List X
  curve_array blank a n = filled 21 blank a (suc n)

  abbrev pub surface_array : X → (ℕ → ℕ → X) → ℕ → List X
  surface_array blank s n = filled 231 blank (graded s) (triangle (suc n))
