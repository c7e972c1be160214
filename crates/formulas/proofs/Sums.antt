-- A loop that takes in one term after the other: what the sum is at its start, and with one term or one row of terms more. Assumes nothing.
use Rattle.std.proofs.Common.{◌≡◌, ℕ, ◌+◌, refl, ap, add-one}
use Rattle.calculus.specs.InTurn.{in_turn, in_rows}

module _ {A B : Type 0} (op : A → B → A) (x : A) where
  pub turn_none : (f : ℕ → B) → in_turn op x f 0 ≡ x
  unfolding in_turn
  turn_none f = refl

  pub turn_more : (f : ℕ → B) (i : ℕ) → in_turn op x f (i + 1) ≡ op (in_turn op x f i) (f i)
  unfolding in_turn
  turn_more f i = ap (in_turn op x f) (add-one i)

  pub rows_none : (f : ℕ → ℕ → B) (n : ℕ) → in_rows op x f 0 n ≡ x
  unfolding in_rows
  rows_none f n = refl

  pub rows_more : (f : ℕ → ℕ → B) (i n : ℕ) → in_rows op x f (i + 1) n ≡ in_turn op (in_rows op x f i n) (f i) n
  unfolding in_rows
  rows_more f i n = ap (λ (k : ℕ). in_rows op x f k n) (add-one i)
