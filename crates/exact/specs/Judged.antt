-- An answer by histories: the verdict on all that was formed and divided, in the order of work, or else the integers' own values. Entries of a
-- quotient repeat what the entries before them took; that has stood in the list before, and changes no verdict. Assumes nothing.
use Rattle.std.specs.Prelude.{List, [], ◌∷◌, ◌++◌, ℕ, ℤ, Result}
use Rattle.std.specs.Result.{result_and}
use Rattle.refusals.specs.declared.Refusal.{Refusal}
use Rattle.whole.specs.History.{Event, Traced, verdict}
use Rattle.exact.specs.declared.CurveDerivatives.{CurveDerivatives}
use Rattle.exact.specs.declared.SurfaceDerivatives.{SurfaceDerivatives}
use Rattle.calculus.specs.Order.{curve_entries, surface_entries}
use Rattle.exact.specs.Names.{answered_curve, answered_surface}

-- what the entries of a list took, one after the other
unfoldable pub histories : List Traced → List Event
histories [] = []
histories (t ∷ ts) = t.history ++ histories ts

-- g forms the entries, and a is the jet of integers that they come to
abbrev pub judged_curve : (ℕ → Traced) → (ℕ → ℤ) → ℕ → Result CurveDerivatives Refusal
judged_curve g a n = result_and (verdict (histories (curve_entries g n))) (answered_curve n a)

abbrev pub judged_surface : (ℕ → ℕ → Traced) → (ℕ → ℕ → ℤ) → ℕ → Result SurfaceDerivatives Refusal
judged_surface g s n = result_and (verdict (histories (surface_entries g n))) (answered_surface n s)
