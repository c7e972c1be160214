-- What the fillet's functions over lists answer where the test of what is given refuses. Assumes nothing.
use Rattle.std.proofs.Common.{◌≡◌, ℕ, Result, Err, ap, sym, ◌∙◌}
use Rattle.std.specs.Prelude.{⊤}
use Rattle.refusals.specs.declared.Refusal.{Refusal}
use Rattle.refusals.specs.Number.{number_of}
use Rattle.given.specs.Lists.{admitted}
use Rattle.given.proofs.Admission.{refused, refused-not_0}

-- its refusal is handed on, and what is lent stays as it was
pub handed-on : {L : Type 0} {t u : Result ⊤ Refusal} {x : Refusal} {g : ℕ} (out : L) → t ≡ Err x → u ≡ t → number_of t ≡ g → (r : ℕ × L) →
    ◌≡◌ {A = ℕ × L} (number_of u, out) (admitted g out r)
handed-on out e f h r = refused out (ap number_of f ∙ h) r (λ z. refused-not_0 e (ap number_of (sym f) ∙ z))
