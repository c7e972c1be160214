-- Recipes as lists (document 01's term), and the two roads: the orders of the jets, all their lists one after the other, and three numbers a step. What the
-- lists need to be jets is tested first, for 1 and 2; every other refusal is the recipe's or the road's own, where it comes to it. Assumes nothing.
use Rattle.std.specs.Prelude.{cond, List, [], ◌∷◌, ℕ, suc, ◌+◌, ◌*◌, ◌/◌, ◌%◌, ltb, eqb, ℤ, length, get_or, take, drop, Result}
use Rattle.std.specs.Result.{result_map_both, result_unwrap_or}
use Rattle.refusals.specs.declared.Refusal.{Refusal}
use Rattle.calculus.specs.Graded.{triangle}
use Rattle.calculus.specs.Array.{filled}
use Rattle.calculus.specs.JetKind.{jet_of_list}
use Rattle.calculus.specs.declared.Operation.{Operation}
use Rattle.calculus.specs.declared.Operation.TheVariants.{Sum}
use Rattle.calculus.specs.Operation.{operation_of}
use Rattle.calculus.specs.Orders.{some_above20, smallest}
use Rattle.exact.specs.declared.CurveDerivatives.{CurveDerivatives}
use Rattle.exact.specs.declared.SurfaceDerivatives.{SurfaceDerivatives}
use Rattle.exact.specs.declared.ParameterCurve.{ParameterCurve}
use Rattle.exact.specs.Answer.{surfaces, parameters, curves}
use Rattle.roads.specs.declared.Step.{Step}
use Rattle.roads.specs.declared.Recipe.{Recipe}
use Rattle.roads.specs.Recipe.{RecipeKind, built}
use Rattle.roads.specs.Roads.{surface_steps, curve_steps}
use Rattle.given.specs.Given.{first, count_given, parameter_given}
use Rattle.given.specs.Lists.{Input, Output, input, output, deliver, admitted}

-- ---- the jets of lists that stand one after the other
abbrev pub surface_size : ℕ → ℕ
surface_size n = triangle (suc n)

-- how many numbers the lists have
unfoldable pub total : (ℕ → ℕ) → List ℕ → ℕ
total size [] = 0
total size (n ∷ ns) = size n + total size ns

unfoldable pub jet_at : {J : Type 0} → (ℕ → ℕ) → (ℕ → List ℤ → J) → List ℕ → List ℤ → ℕ → J
jet_at size read orders entries i = let n = get_or orders i 0 in read n (take (size n) (drop (total size (take i orders)) entries))

-- ---- steps
abbrev pub step_with : ℕ → ℕ → Operation → Step
step_with left right op = record { operation = op; left = left; right = right }

-- an operation number above 3 is no operation, and its step is no step
abbrev pub step_of : ℕ → ℕ → ℕ → Result Step Refusal
step_of op left right = result_map_both (step_with left right) (λ r. r) (operation_of op)

-- what stands for no step names 16, which no jet has, for 4 jets and 12 steps end at 15: the recipe refuses it, as any step that names a later number
abbrev pub no_step : Step
no_step = record { operation = Sum; left = 16; right = 16 }

unfoldable pub step_at : List ℕ → ℕ → Step
step_at l i = result_unwrap_or (step_of (get_or l (3 * i) 0) (get_or l (3 * i + 1) 0) (get_or l (3 * i + 2) 0)) no_step

abbrev pub blank_step : Step
blank_step = record { operation = Sum; left = 0; right = 0 }

-- ---- the record: the counts as they are given, the first four jets and the first twelve steps; past what is given, what an empty list is read as, which
-- is the zero jet of order 0, and sums of the first jet. So a count above 4 or 12 is the recipe's to refuse
abbrev pub jets_of : {J : Type 0} → (ℕ → ℕ) → (ℕ → List ℤ → J) → List ℕ → List ℤ → List J
jets_of size read orders entries = filled 4 (read 0 []) (jet_at size read orders entries) (length orders)

unfoldable pub recipe_of : {J : Type 0} → (ℕ → ℕ) → (ℕ → List ℤ → J) → List ℕ → List ℤ → List ℕ → Recipe J
recipe_of size read orders entries steps = record {
  inputs = length orders;
  jets = jets_of size read orders entries;
  steps = length steps / 3;
  program = filled 12 blank_step (step_at steps) (length steps / 3);
}

abbrev pub surface_recipe : List ℕ → List ℤ → List ℕ → Recipe SurfaceDerivatives
surface_recipe = recipe_of surface_size (jet_of_list surfaces)

abbrev pub curve_recipe : List ℕ → List ℤ → List ℕ → Recipe CurveDerivatives
curve_recipe = recipe_of suc (jet_of_list curves)

-- ---- the tests
-- the lists of the jets, which have l numbers together
abbrev pub lists_given : (ℕ → ℕ) → List ℕ → ℕ → ℕ
lists_given size orders l = cond (some_above20 orders) 1 (count_given (total size orders) l)

-- three numbers a step
abbrev pub steps_given : List ℕ → ℕ
steps_given steps = count_given 0 (length steps % 3)

-- the result's order is the smallest: where no jet is given none is due
abbrev pub result_given : (ℕ → ℕ → ℕ) → List ℕ → ℕ → ℕ
result_given test orders o = cond (eqb (length orders) 0) 0 (test (smallest orders) o)

-- the list lent for a curve of the order n asked: above 20 none is due, and the road refuses the order where it comes to its carry
abbrev pub lent_given : ℕ → ℕ → ℕ
lent_given n o = cond (ltb 20 n) 0 (count_given (suc n) o)

unfoldable pub recipe_given : (ℕ → ℕ) → (ℕ → ℕ → ℕ) → List ℕ → ℕ → List ℕ → ℕ → ℕ
recipe_given size test orders l steps o = first (lists_given size orders l) (first (steps_given steps) (result_given test orders o))

unfoldable pub road_given : List ℕ → ℕ → List ℕ → ℕ → ℕ → ℕ → ℕ → ℕ
road_given orders l steps m c n o = first (lists_given surface_size orders l) (first (steps_given steps) (first (parameter_given m c) (lent_given n o)))

-- ---- a recipe's answer, and a road's
unfoldable pub recipe_into : {J : Type 0} → (ℕ → ℕ) → Input ℤ J → Output ℤ (Result J Refusal) → RecipeKind J → List ℕ → List ℤ → List ℕ → List ℤ → ℕ × List ℤ
recipe_into size I O K orders entries steps out =
    let r = recipe_of size I.jet orders entries steps in
    admitted (recipe_given size O.test orders (length entries) steps (length out)) out (O.deliver (built K r.inputs r.jets r.steps r.program) out)

abbrev pub surface_recipe_into : List ℕ → List ℤ → List ℕ → List ℤ → ℕ × List ℤ
surface_recipe_into = recipe_into surface_size (input surfaces) (output surfaces) surface_steps

abbrev pub curve_recipe_into : List ℕ → List ℤ → List ℕ → List ℤ → ℕ × List ℤ
curve_recipe_into = recipe_into suc (input curves) (output curves) curve_steps

unfoldable pub road_into : (Recipe SurfaceDerivatives → ParameterCurve → ℕ → Result CurveDerivatives Refusal) → List ℕ → List ℤ → List ℕ → ℕ → List ℤ → ℕ → List ℤ → ℕ × List ℤ
road_into road orders entries steps m c n out =
    admitted (road_given orders (length entries) steps m (length c) n (length out)) out (deliver curves (road (surface_recipe orders entries steps) (jet_of_list parameters m c) n) out)
