-- One more term of a sum. Assumes nothing.
use Rattle.std.proofs.Common.{◌≡◌, ap₂, ℕ, suc}
use Rattle.calculus.specs.InTurn.{in_turn}

-- one term more, taken in
module _ {A B : Type 0} (op : A → B → A) (x : A) (f : ℕ → B) where
  pub one_more : {s : A} {t : B} {i j : ℕ} → s ≡ in_turn op x f i → t ≡ f i → j ≡ suc i → op s t ≡ in_turn op x f j
  unfolding in_turn
  one_more e g h = rw h (ap₂ op e g)
