-- Carrying a field of any number of variables along a curve: Faà di Bruno's formula, over masks with a digit for each part.
-- Assumes nothing.
use Rattle.std.proofs.Common.{List, [], ◌∷◌, ℕ, zero, suc, ◌/◌, ◌%◌, ◌^◌, length, ℤ, pos}
use Rattle.calculus.proofs.Ints.{◌⊗◌, sum, over}
use Rattle.calculus.proofs.Jets.{Curve}
use Rattle.partitions.specs.Parts.{lists, multiplicity}

-- fields of dim variables: the derivative by each, and the value at the point
pub record Space : Type 1 where
  pub Field : Type 0
  pub dim : ℕ
  pub ∂ : ℕ → Field → Field
  pub ev : Field → ℤ

-- a digit of the mask for each part, the lowest first: by which variable to derive, and whose derivative of the part's order to take
unfoldable pub term : (S : Space) → (ℕ → Curve) → S.Field → List ℕ → ℕ → ℤ
term S c s [] mask = S.ev s
term S c s (a ∷ l) mask = c (mask % S.dim) a ⊗ term S c (S.∂ (mask % S.dim) s) l (mask / S.dim)

unfoldable pub tensor : (S : Space) → (ℕ → Curve) → S.Field → List ℕ → ℤ
tensor S c s l = sum (S.dim ^ length l) (term S c s l)

-- the derivatives of the field s along the curve whose coordinate k is c k
unfoldable pub carry : (S : Space) → (ℕ → Curve) → S.Field → Curve
carry S c s zero = S.ev s
carry S c s (suc n) = sum (suc n) (λ k. over (lists (suc n) (suc k)) (λ l. tensor S c s l ⊗ pos (multiplicity l)))
