-- The kinds of exact jet, and what functions on them answer. Assumes nothing.
use Rattle.std.specs.Prelude.{true, ℕ, ◌+◌, ℤ, pos, replicate, Result, Ok}
use Rattle.refusals.specs.declared.Refusal.{Refusal}
use Rattle.whole.specs.Checked.{Whole}
use Rattle.calculus.specs.Order.{curve_entries, surface_entries}
use Rattle.calculus.specs.JetKind.{Entries, JetKind, jets_of_curves, jets_of_surfaces, jets_of_parameters, answered, on_two, on_two_at}
use Rattle.exact_formulas.specs.Entries.{curve_numbers, value_of, unless_refused}
use Rattle.exact.specs.declared.CurveDerivatives.{CurveDerivatives}
use Rattle.exact.specs.declared.SurfaceDerivatives.{SurfaceDerivatives}
use Rattle.exact.specs.declared.ParameterCurve.{ParameterCurve}

-- ---- whole numbers as the entries of jets: each is finite
abbrev pub wholes : Entries ℤ ℤ
wholes = record { zero = pos 0; at = curve_numbers; flat = λ l. l; size = λ k. k; zeros = λ k. replicate k (pos 0); finite = λ x k. true; finite_list = λ l. true }

abbrev pub curves : JetKind ℤ (ℕ → ℤ) CurveDerivatives
curves =
    jets_of_curves wholes (record { order = λ a. a.order; stored = λ a. a.entries; make = λ n l. record { order = n; entries = l } })

abbrev pub surfaces : JetKind ℤ (ℕ → ℕ → ℤ) SurfaceDerivatives
surfaces =
    jets_of_surfaces wholes (record { order = λ a. a.order; stored = λ a. a.entries; make = λ n l. record { order = n; entries = l } })

abbrev pub parameters : JetKind ℤ ((ℕ → ℤ) × (ℕ → ℤ)) ParameterCurve
parameters =
    jets_of_parameters wholes (record { order = λ a. a.order; stored = λ a. (a.u, a.v); make = λ n s. record { order = n; u = s.0; v = s.1 } })

-- ---- the jet f, up to the order n: the first refusal of an entry, in the order of work, or else the answer
abbrev pub curve_answer : (ℕ → Whole) → ℕ → Result CurveDerivatives Refusal
curve_answer f n = unless_refused (curve_entries f n) (answered curves n (λ m. value_of (f m)))

abbrev pub surface_answer : (ℕ → ℕ → Whole) → ℕ → Result SurfaceDerivatives Refusal
surface_answer f n = unless_refused (surface_entries f n) (answered surfaces n (λ i j. value_of (f i j)))

-- ---- a formula on two jets
abbrev pub on_curves : ((ℕ → Whole) → (ℕ → Whole) → ℕ → Whole) → CurveDerivatives → CurveDerivatives → Result CurveDerivatives Refusal
on_curves op = on_two curves curves (λ x y. curve_answer (op (λ m. Ok (x m)) (λ m. Ok (y m))))

abbrev pub on_surfaces : ((ℕ → ℕ → Whole) → (ℕ → ℕ → Whole) → ℕ → ℕ → Whole) → SurfaceDerivatives → SurfaceDerivatives → Result SurfaceDerivatives Refusal
on_surfaces op = on_two surfaces surfaces (λ x y. surface_answer (op (λ i j. Ok (x i j)) (λ i j. Ok (y i j))))

-- one entry of it, of the order m, and of the orders m by u and n by v
abbrev pub on_curves_at : ((ℕ → Whole) → (ℕ → Whole) → ℕ → Whole) → CurveDerivatives → CurveDerivatives → ℕ → Whole
on_curves_at op a b m = on_two_at curves curves (λ x y. op (λ k. Ok (x k)) (λ k. Ok (y k)) m) a b m

abbrev pub on_surfaces_at : ((ℕ → ℕ → Whole) → (ℕ → ℕ → Whole) → ℕ → ℕ → Whole) → SurfaceDerivatives → SurfaceDerivatives → ℕ → ℕ → Whole
on_surfaces_at op a b m n = on_two_at surfaces surfaces (λ x y. op (λ i j. Ok (x i j)) (λ i j. Ok (y i j)) m n) a b (m + n)
