-- The steps of a reading, where the reading's case is known. Assumes nothing.
use Rattle.std.proofs.Common.{◌≡◌, refl, List, [], ◌∷◌, ◌++◌, ℕ}
use Rattle.std.specs.List.{fold}
use Rattle.parts_text.specs.declared.Reading.{Reading}
use Rattle.parts_text.specs.Printed.{kind}
use Rattle.parts_text.specs.Reading.{step, fed}

pub fed-append : (s : Reading) (a b : List ℕ) → fed s (a ++ b) ≡ fed (fed s a) b
unfolding fed
fed-append s [] b = refl
fed-append s (x ∷ a) b = fed-append (step s (kind x)) a b

pub fed_fold : (s : Reading) (l : List ℕ) → fed s l ≡ fold (λ s b. step s (kind b)) s l
unfolding fed
fed_fold s [] = refl
fed_fold s (b ∷ l) = fed_fold (step s (kind b)) l
