-- The kinds of jet of floats, and what functions on them answer. Assumes nothing.
use Rattle.std.specs.Prelude.{cond, ℕ, replicate, Float, Result, Err}
use Rattle.refusals.specs.declared.Refusal.{Refusal}
use Rattle.refusals.specs.declared.Refusal.TheVariants.{DivisionByZero}
use Rattle.vectors.specs.Answers.{returned as returned_float}
use Rattle.calculus.specs.JetKind.{Entries, JetKind, jets_of_curves, jets_of_surfaces, jets_of_parameters, returned, on_two, on_two_at}
use Rattle.ieee_vectors.specs.Vectors.{positive_zero}
use Rattle.formulas.specs.Real.{is_zero}
use Rattle.formulas.specs.Numbers.{curve_numbers, all_finite, finite_list}
use Rattle.derivatives.specs.declared.CurveDerivatives.{CurveDerivatives}
use Rattle.derivatives.specs.declared.SurfaceDerivatives.{SurfaceDerivatives}
use Rattle.derivatives.specs.declared.ParameterCurve.{ParameterCurve}

-- ---- floats as the entries of jets
abbrev pub floats : Entries Float Float
floats = record { zero = positive_zero; at = curve_numbers; flat = λ l. l; size = λ k. k; zeros = λ k. replicate k positive_zero; finite = all_finite; finite_list = finite_list }

abbrev pub curves : JetKind Float (ℕ → Float) CurveDerivatives
curves = jets_of_curves floats (record { order = λ a. a.order; stored = λ a. a.entries; make = λ n l. record { order = n; entries = l } })

abbrev pub surfaces : JetKind Float (ℕ → ℕ → Float) SurfaceDerivatives
surfaces = jets_of_surfaces floats (record { order = λ a. a.order; stored = λ a. a.entries; make = λ n l. record { order = n; entries = l } })

abbrev pub parameters : JetKind Float ((ℕ → Float) × (ℕ → Float)) ParameterCurve
parameters = jets_of_parameters floats (record { order = λ a. a.order; stored = λ a. (a.u, a.v); make = λ n s. record { order = n; u = s.0; v = s.1 } })

-- ---- a quotient of two jets, of the kinds K and M, as a formula of the kind R: 7 where the divisor's first entry is zero
abbrev pub by_division : {X E J Y F L Z G H : Type 0} → JetKind X E J → JetKind Y F L → JetKind Z G H → (F → Float) → (E → F → G) → J → L → Result H Refusal
by_division K M R first f = on_two K M (λ x y n. cond (is_zero (first y)) (Err DivisionByZero) (returned R n (f x y)))

-- one float by a formula on two jets, worked at an order that is asked
abbrev pub entry_at : {X E J Y F L : Type 0} → JetKind X E J → JetKind Y F L → (E → F → Float) → J → L → ℕ → Result Float Refusal
entry_at K M f = on_two_at K M (λ x y. returned_float (f x y))
