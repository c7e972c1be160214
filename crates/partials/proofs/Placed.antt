-- The parameters stand in the order of their numbers. Assumes nothing.
use Rattle.std.proofs.Common.{◌≡◌, refl, ℕ, zero, suc, ◌<◌, ◌∷◌, [], slice_index_or, arith}
use Rattle.partials.specs.Parameters.{place}
use Rattle.partials.specs.declared.rotations.Parameter.TheVariants.{X, Y, Z, Angle}

pub placed : (k : ℕ) → k < 4 → place (slice_index_or (X ∷ Y ∷ Z ∷ Angle ∷ []) k X) ≡ k
placed zero h = refl
placed (suc zero) h = refl
placed (suc (suc zero)) h = refl
placed (suc (suc (suc zero))) h = refl
placed (suc (suc (suc (suc k)))) h = absurd (omega (arith, h))
