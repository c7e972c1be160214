-- Nonincreasing lists of parts from 1 to m.
-- Assumes nothing.
use Rattle.std.proofs.Common.{List, [], ◌∷◌, ℕ, suc, ◌≤◌, arith, length}
use Rattle.partitions.specs.Parts.{total}

pub data Down : ℕ → List ℕ → Type 0 where
  none : {m : ℕ} → Down m []
  one : {m a : ℕ} {l : List ℕ} → suc a ≤ m → Down (suc a) l → Down m (suc a ∷ l)

pub wider : {m : ℕ} {l : List ℕ} → Down m l → Down (suc m) l
wider none = none
wider {m} (one {a = a} h d) = one {m = suc m} {a = a} (omega arith) d

pub long : {m : ℕ} {l : List ℕ} → Down m l → length l ≤ total l
unfolding total
long none = omega arith
long (one h d) = omega (arith, long d)
