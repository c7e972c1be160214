-- An operation that takes in one term after the other: Σ where it is a sum from zero, with each rounding in its place. Assumes nothing.
use Rattle.std.specs.Prelude.{List, [], ◌∷◌, ℕ, zero, suc}

module _ {A B : Type 0} (op : A → B → A) where
  -- from x, the terms f 0 .. f (n - 1)
  unfoldable pub in_turn : A → (ℕ → B) → ℕ → A
  in_turn x f zero = x
  in_turn x f (suc n) = op (in_turn x f n) (f n)

  -- from x, m rows of n terms f i j: i rising, then j
  unfoldable pub in_rows : A → (ℕ → ℕ → B) → ℕ → ℕ → A
  in_rows x f zero n = x
  in_rows x f (suc m) n = in_turn (in_rows x f m n) (f m) n

  -- from x, a term for each member of a list
  unfoldable pub along_list : {X : Type 0} → A → (X → B) → List X → A
  along_list x f [] = x
  along_list x f (y ∷ ys) = along_list (op x (f y)) f ys
