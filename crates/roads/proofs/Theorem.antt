-- The two roads meet (document 01's demand 3). Take any surfaces, steps, curve in their parameters and order for which the first road (build, then
-- carry) is answered. Then the second road (carry every input, then build) is answered with the same jet, where every number that it forms lies
-- within signed 64 bits; and it is refused with 9 where one does not. Assumes nothing.
use Rattle.std.proofs.Common.{Bool, true, false, cond, List, map, ◌≡◌, ℕ, length, get_or, take, ℤ, Result, Ok, Err, refl, sym, ap, ap₂, ◌∙◌, arith, length-take, take_all}
use native.Mathlib.Nat.{min-eq_left}
use lib.ListN.{length-map}
use Rattle.refusals.specs.declared.Refusal.{Refusal}
use Rattle.refusals.specs.declared.Refusal.TheVariants.{OrderAbove20, NoRecipe, OutOfRange}
use Rattle.whole.specs.Checked.{in_range}
use Rattle.whole.specs.History.{numbers, every}
use Rattle.exact.specs.declared.CurveDerivatives.{CurveDerivatives}
use Rattle.exact.specs.declared.SurfaceDerivatives.{SurfaceDerivatives}
use Rattle.exact.specs.declared.ParameterCurve.{ParameterCurve}
use Rattle.exact.specs.Composite.{along_curve}
use Rattle.roads.specs.declared.Step.{Step}
use Rattle.roads.specs.declared.Recipe.{Recipe}
use Rattle.roads.specs.Recipe.{and_then, well_formed, worked}
use Rattle.calculus.specs.Orders.{some_above20, smallest}
use Rattle.roads.specs.Roads.{surface_steps, curve_steps, build_then_carry, carry_then_build}
use Rattle.exact.specs.Answer.{surfaces, curves}
use Rattle.roads.specs.Formed.{carried_with, carries_take, steps_take, numbers_formed}
use Rattle.roads.proofs.Answers.{first-answered}
use Rattle.roads.proofs.Meeting.{along_jet, Orders, carried-value}
use Rattle.roads.proofs.Induction.{steps-met, every_two}
use Rattle.roads.proofs.Answered.{passed, surfaces-keep, steps-order}
use Rattle.roads.proofs.Inputs.{Counts, counts, within, at_map, smallest-20, inputs-carried, jets-above, jets-smallest}

module _ (r : Recipe SurfaceDerivatives) (four : length r.jets ≡ 4) (c : ParameterCurve) (n : ℕ) where
  abbrev inputs : List SurfaceDerivatives
  inputs = take r.inputs r.jets

  abbrev steps : List Step
  steps = take r.steps r.program

  abbrev k : ℕ
  k = smallest (map surfaces.order inputs)

  abbrev cut-input : ℕ → SurfaceDerivatives
  cut-input i = surface_steps.cut k (get_or inputs i surface_steps.blank)

  abbrev carried-input : ℕ → ℕ → ℤ
  carried-input i = λ m. (carried_with c (get_or inputs i surface_steps.blank) m).value

  abbrev work : Result SurfaceDerivatives Refusal
  work = worked surface_steps cut-input r.inputs steps

  abbrev carry : SurfaceDerivatives → Result CurveDerivatives Refusal
  carry s = along_curve s c n

  -- the second road's recipe, on the curves l
  abbrev rebuild : List CurveDerivatives → Result CurveDerivatives Refusal
  rebuild l =
      cond (some_above20 (map curves.order l)) (Err OrderAbove20)
      (cond (well_formed r.inputs r.steps steps) (worked curve_steps (λ i. curve_steps.cut (smallest (map curves.order l)) (get_or l i curve_steps.blank)) r.inputs steps) (Err NoRecipe))

  module _ {b : CurveDerivatives} (e : build_then_carry r c n ≡ Ok b) where
    -- the surface built, which passed the checks, and is carried
    record Built : Type 0 where
      surface : SurfaceDerivatives
      low : some_above20 (map surfaces.order inputs) ≡ false
      formed : well_formed r.inputs r.steps steps ≡ true
      works : work ≡ Ok surface
      carries : carry surface ≡ Ok b

    built : Built
    built =
        let p = first-answered (cond (some_above20 (map surfaces.order inputs)) (Err OrderAbove20) (cond (well_formed r.inputs r.steps steps) work (Err NoRecipe))) carry e in
        let q = passed (some_above20 (map surfaces.order inputs)) (well_formed r.inputs r.steps steps) work p.1 in
        record { surface = p.0; low = q.0; formed = q.1; works = q.2; carries = p.2 }

    count : Counts r.inputs r.steps steps
    count = counts r.inputs r.steps steps built.formed

    orders : Orders c k n
    orders =
        let w = within _ built.surface.order c.order n built.carries in
        let o : built.surface.order ≡ k = steps-order surfaces-keep (smallest-20 (map surfaces.order inputs)) steps cut-input r.inputs count.some (λ i l. refl) count.names built.works in
        record { high = smallest-20 (map surfaces.order inputs); parameter = w.curve; asked = omega (arith, w.surface, o); reach = w.reach }

    length-inputs : length inputs ≡ r.inputs
    length-inputs = length-take r.inputs r.jets ∙ min-eq_left (omega (arith, count.four, four))

    jets : List CurveDerivatives
    jets = map (along_jet c k n) inputs

    take-jets : take r.inputs jets ≡ jets
    unfolding jets
    take-jets = take_all r.inputs jets (omega (arith, length-map inputs (along_jet c k n), length-inputs))

    smallest-jets : smallest (map curves.order jets) ≡ n
    unfolding jets
    smallest-jets = jets-smallest c k n orders.parameter orders.reach (omega (arith, orders.asked, orders.high)) inputs (omega (arith, length-inputs, count.some))

    rebuilt : rebuild jets ≡ cond (every in_range (numbers (steps_take n carried-input r.inputs steps))) (Ok b) (Err OutOfRange)
    unfolding jets
    rebuilt =
        ap₂ (λ (t u : Bool). cond t (Err OrderAbove20) (cond u (worked curve_steps (λ i. curve_steps.cut (smallest (map curves.order jets)) (get_or jets i curve_steps.blank)) r.inputs steps) (Err NoRecipe)))
        (jets-above c k n orders.parameter orders.reach (omega (arith, orders.asked, orders.high)) inputs) built.formed
        ∙ steps-met c k n orders steps cut-input (λ i. curve_steps.cut (smallest (map curves.order jets)) (get_or jets i curve_steps.blank)) carried-input r.inputs count.some
        (λ i l. record {
          order = refl;
          curve = ap₂ (λ (x : ℕ) (a : CurveDerivatives). record { order = x; entries = a.entries }) smallest-jets
              (at_map (along_jet c k n) inputs i surface_steps.blank curve_steps.blank (omega (arith, l, length-inputs)));
          number = λ m b. carried-value c k n (get_or inputs i surface_steps.blank) m;
        })
        count.names b (ap (λ (a : Result SurfaceDerivatives Refusal). and_then a carry) built.works ∙ built.carries)

    in-turn : (t : Bool) → and_then (cond t (Ok jets) (Err OutOfRange)) (λ l. rebuild (take r.inputs l))
        ≡ cond (cond t (every in_range (numbers (steps_take n carried-input r.inputs steps))) false) (Ok b) (Err OutOfRange)
    in-turn true = ap rebuild take-jets ∙ rebuilt
    in-turn false = refl

    pub two-roads : carry_then_build r c n ≡ cond (every in_range (numbers_formed r c n)) (Ok b) (Err OutOfRange)
    unfolding jets
    two-roads =
        ap (λ (a : Result (List CurveDerivatives) Refusal). and_then a (λ l. rebuild (take r.inputs l)))
        (inputs-carried c k n orders.parameter orders.reach inputs built.low orders.asked)
        ∙ in-turn (every in_range (numbers (carries_take c n inputs)))
        ∙ ap (λ (t : Bool). cond t (Ok b) (Err OutOfRange)) (sym (every_two (carries_take c n inputs) (steps_take n carried-input r.inputs steps)))

-- THE THEOREM. The array of surfaces has its four places, as every array of that type has; which of them are given, the count says.
pub roads-meet : (r : Recipe SurfaceDerivatives) (c : ParameterCurve) (order : ℕ) → length r.jets ≡ 4 → {jet : CurveDerivatives} →
    build_then_carry r c order ≡ Ok jet →
    carry_then_build r c order ≡ cond (every in_range (numbers_formed r c order)) (Ok jet) (Err OutOfRange)
roads-meet r c order four e = two-roads r four c order e
