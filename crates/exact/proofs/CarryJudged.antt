-- The carry by histories: its answer is the verdict on all the numbers that it forms, in the order of work, beside the integers' own values; and as
-- it divides nothing, it is refused exactly where a number that it forms is out of range, and then as out of range. Assumes nothing.
use Rattle.std.proofs.Common.{◌≡◌, refl, sym, ap, ◌∙◌, cond, ℕ, ◌≤◌, le_refl, ℤ}
use Rattle.std.specs.Prelude.{Ok, Err}
use Rattle.std.specs.Result.{result_and}
use Rattle.refusals.specs.declared.Refusal.TheVariants.{OutOfRange}
use Rattle.whole.specs.Checked.{in_range}
use Rattle.whole.specs.History.{Traced, bare, settle, numbers, every}
use Rattle.whole.proofs.History.{settle-bare}
use Rattle.calculus.specs.Kind.{regular, plain}
use Rattle.calculus.specs.Carry.{composite_derivative, composite_derivatives}
use Rattle.calculus.proofs.Related.{regulars}
use Rattle.calculus.proofs.CarryAlike.{composite_derivative-alike, composite_derivatives-alike}
use Rattle.exact.specs.declared.SurfaceDerivatives.{SurfaceDerivatives}
use Rattle.exact.specs.declared.ParameterCurve.{ParameterCurve}
use Rattle.exact_formulas.specs.Kinds.{checked, traced}
use Rattle.calculus.specs.Order.{curve_entries}
use Rattle.exact_formulas.specs.Entries.{curve_numbers, surface_numbers, curve_values, surface_values}
use Rattle.exact.specs.Names.{answered_curve}
use Rattle.exact.specs.Answer.{curve_answer}
use Rattle.exact.specs.Judged.{histories, judged_curve}
use Rattle.exact.specs.Composite.{along_curve_at, along_curve}
use Rattle.exact.proofs.Orders.{within_orders, ordered}
use Rattle.exact.proofs.Judged.{Settled, settled, Valued, valued, Sound, exact_none, sound_module, curve-judged, curve-exact}

-- ---- the carry of a jet of given numbers
module _ (u v : ℕ → ℤ) (s : ℕ → ℕ → ℤ) where
  abbrev pub carried_traces : ℕ → Traced
  carried_traces = composite_derivatives (regular traced) (λ m. bare (u m)) (λ m. bare (v m)) (λ i j. bare (s i j))

  pub derivative-settles : (m : ℕ) → Settled (composite_derivative (regular traced) (λ m. bare (u m)) (λ m. bare (v m)) (λ i j. bare (s i j)) m)
      (composite_derivative (regular checked) (λ m. Ok (u m)) (λ m. Ok (v m)) (λ i j. Ok (s i j)) m)
  derivative-settles m =
      composite_derivative-alike Settled Settled (regular traced) (regular checked) (regulars settled) m (λ m. bare (u m)) (λ m. bare (v m)) (λ m. Ok (u m)) (λ m. Ok (v m))
      (λ i j. bare (s i j)) (λ i j. Ok (s i j)) (λ i l. settle-bare (u i)) (λ i l. settle-bare (v i)) (λ i j l. settle-bare (s i j)) m (le_refl m)

  pub derivative-values : (m : ℕ) → Valued (composite_derivative (regular traced) (λ m. bare (u m)) (λ m. bare (v m)) (λ i j. bare (s i j)) m) (composite_derivative (regular plain) u v s m)
  derivative-values m =
      composite_derivative-alike Valued Valued (regular traced) (regular plain) (regulars valued) m (λ m. bare (u m)) (λ m. bare (v m)) u v
      (λ i j. bare (s i j)) s (λ i l. refl) (λ i l. refl) (λ i j l. refl) m (le_refl m)

  pub carry-settles : (n m : ℕ) → m ≤ n → Settled (carried_traces m) (composite_derivatives (regular checked) (λ m. Ok (u m)) (λ m. Ok (v m)) (λ i j. Ok (s i j)) m)
  carry-settles n =
      composite_derivatives-alike Settled Settled (regular traced) (regular checked) (regulars settled) n (λ m. bare (u m)) (λ m. bare (v m)) (λ m. Ok (u m)) (λ m. Ok (v m))
      (λ i j. bare (s i j)) (λ i j. Ok (s i j)) (λ i l. settle-bare (u i)) (λ i l. settle-bare (v i)) (λ i j l. settle-bare (s i j))

  pub carry-judged : (n : ℕ) → curve_answer (composite_derivatives (regular checked) (λ m. Ok (u m)) (λ m. Ok (v m)) (λ i j. Ok (s i j))) n
      ≡ judged_curve carried_traces (composite_derivatives (regular plain) u v s) n
  carry-judged n =
      curve-judged n (composite_derivatives (regular checked) (λ m. Ok (u m)) (λ m. Ok (v m)) (λ i j. Ok (s i j))) carried_traces (composite_derivatives (regular plain) u v s)
      (carry-settles n)
      (composite_derivatives-alike Valued Valued (regular traced) (regular plain) (regulars valued) n (λ m. bare (u m)) (λ m. bare (v m)) u v
      (λ i j. bare (s i j)) s (λ i l. refl) (λ i l. refl) (λ i j l. refl))

  -- it divides nothing: the integers' own values, or the refusal where a number that is formed is out of range
  pub carry-in-range : (n : ℕ) → curve_answer (composite_derivatives (regular checked) (λ m. Ok (u m)) (λ m. Ok (v m)) (λ i j. Ok (s i j))) n
      ≡ cond (every in_range (numbers (histories (curve_entries carried_traces n)))) (answered_curve n (composite_derivatives (regular plain) u v s)) (Err OutOfRange)
  carry-in-range n =
      curve-exact n (composite_derivatives (regular checked) (λ m. Ok (u m)) (λ m. Ok (v m)) (λ i j. Ok (s i j))) carried_traces (composite_derivatives (regular plain) u v s)
      (carry-settles n) (composite_derivatives-alike Sound Sound (regular traced) (regular plain) sound_module n (λ m. bare (u m)) (λ m. bare (v m)) u v
      (λ i j. bare (s i j)) s (λ i l. (refl, exact_none)) (λ i l. (refl, exact_none)) (λ i j l. (refl, exact_none)))

-- ---- the public functions: the tests of the orders come first
module _ (s : SurfaceDerivatives) (c : ParameterCurve) (n : ℕ) where
  pub composite-derivative-judged : along_curve_at s c n
      ≡ result_and (within_orders s.order c.order n)
      (settle (composite_derivative (regular traced) (λ m. bare (curve_numbers c.u m)) (λ m. bare (curve_numbers c.v m)) (λ i j. bare (surface_numbers s.entries i j)) n))
  composite-derivative-judged =
      sym (ordered s.order c.order n (composite_derivative (regular checked) (curve_values c.u) (curve_values c.v) (surface_values s.entries) n))
      ∙ ap (result_and (within_orders s.order c.order n)) (sym (derivative-settles (curve_numbers c.u) (curve_numbers c.v) (surface_numbers s.entries) n))

  pub composite-derivatives-judged : along_curve s c n
      ≡ result_and (within_orders s.order c.order n)
      (judged_curve (carried_traces (curve_numbers c.u) (curve_numbers c.v) (surface_numbers s.entries))
      (composite_derivatives (regular plain) (curve_numbers c.u) (curve_numbers c.v) (surface_numbers s.entries)) n)
  composite-derivatives-judged =
      sym (ordered s.order c.order n (curve_answer (composite_derivatives (regular checked) (curve_values c.u) (curve_values c.v) (surface_values s.entries)) n))
      ∙ ap (result_and (within_orders s.order c.order n)) (carry-judged (curve_numbers c.u) (curve_numbers c.v) (surface_numbers s.entries) n)
