-- The numbers that the second road forms, over the integers, which have no bound: each call's entries in the order of work, with what each took.
-- The list has every number formed, and is no log of the work: an entry of a quotient lists what an entry before it took again at each use, and a
-- coefficient stands at each use. A jet that is handed on is given numbers: what they took is not counted again. Assumes nothing.
use Rattle.std.specs.Prelude.{List, [], ◌∷◌, ◌++◌, ℕ, suc, ℤ, get_or, take}
use Rattle.whole.specs.History.{Event, Traced, bare, numbers}
use Rattle.calculus.specs.Kind.{regular}
use Rattle.calculus.specs.Carry.{composite_derivatives}
use Rattle.exact.specs.declared.SurfaceDerivatives.{SurfaceDerivatives}
use Rattle.exact.specs.declared.ParameterCurve.{ParameterCurve}
use Rattle.exact_formulas.specs.Kinds.{traced}
use Rattle.calculus.specs.Order.{curve_entries}
use Rattle.exact_formulas.specs.Entries.{curve_numbers, surface_numbers}
use Rattle.exact.specs.Judged.{histories}
use Rattle.roads.specs.declared.Step.{Step}
use Rattle.roads.specs.declared.Recipe.{Recipe}
use Rattle.calculus.specs.Operation.{curve_operation}
use Rattle.roads.specs.Recipe.{with}
use Rattle.roads.specs.Roads.{surface_steps}

-- what the entries up to the order n of a jet took
abbrev pub formed_by : (ℕ → Traced) → ℕ → List Event
formed_by t n = histories (curve_entries t n)

-- a surface's numbers carried along a curve, and an operation on two jets of numbers
abbrev pub carried_with : ParameterCurve → SurfaceDerivatives → ℕ → Traced
carried_with c s =
    composite_derivatives (regular traced) (λ i. bare (curve_numbers c.u i)) (λ i. bare (curve_numbers c.v i)) (λ i j. bare (surface_numbers s.entries i j))

abbrev pub step_with : Step → (ℕ → ℕ → ℤ) → ℕ → Traced
step_with s jet-of = curve_operation traced s.operation (λ i. bare (jet-of s.left i)) (λ i. bare (jet-of s.right i))

-- what carrying each surface took
unfoldable pub carries_take : ParameterCurve → ℕ → List SurfaceDerivatives → List Event
carries_take c n [] = []
carries_take c n (s ∷ ss) = formed_by (carried_with c s) n ++ carries_take c n ss

-- what the steps took, on the jets in hand, the first step making the number m
unfoldable pub steps_take : ℕ → (ℕ → ℕ → ℤ) → ℕ → List Step → List Event
steps_take n jet-of m [] = []
steps_take n jet-of m (s ∷ ss) = formed_by (step_with s jet-of) n ++ steps_take n (with jet-of m (λ i. (step_with s jet-of i).value)) (suc m) ss

-- all numbers that the second road forms, some of them more than once
abbrev pub numbers_formed : Recipe SurfaceDerivatives → ParameterCurve → ℕ → List ℤ
numbers_formed r c n =
    let inputs = take r.inputs r.jets in
    numbers (carries_take c n inputs
    ++ steps_take n (λ k i. (carried_with c (get_or inputs k surface_steps.blank) i).value) r.inputs (take r.steps r.program))
