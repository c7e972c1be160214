-- Recipes as they are answered: the theorem's cases all occur. Assumes nothing.
use Rattle.std.proofs.Common.{◌≡◌, true, false, List, [], ◌∷◌, ◌++◌, ℕ, ℤ, pos, replicate, Result, Ok, Err, refl}
use Rattle.refusals.specs.declared.Refusal.{Refusal}
use Rattle.refusals.specs.declared.Refusal.TheVariants.{Shape, NoRecipe, OutOfRange}
use Rattle.partitions.specs.Parts.{total, fact, parts, divide, runs_from, runs, multiplicity}
use Rattle.whole.specs.Checked.{in_range, formed, divided}
use Rattle.whole.specs.History.{numbers, every}
use Rattle.calculus.specs.InTurn.{in_turn, in_rows, along_list}
use Rattle.calculus.specs.Rising.{before}
use Rattle.calculus.specs.Choose.{choose}
use Rattle.calculus.specs.Graded.{triangle, index, place}
use Rattle.calculus.specs.Carry.{digits, factors, through_len, ones}
use Rattle.calculus.specs.Array.{listed}
use Rattle.exact.specs.declared.CurveDerivatives.{CurveDerivatives}
use Rattle.exact.specs.declared.SurfaceDerivatives.{SurfaceDerivatives}
use Rattle.exact.specs.declared.ParameterCurve.{ParameterCurve}
use Rattle.calculus.specs.Order.{rows}
use Rattle.exact_formulas.specs.Entries.{unless_refused}
use Rattle.exact.specs.Judged.{histories}
use Rattle.roads.specs.declared.Step.{Step}
use Rattle.roads.specs.declared.Recipe.{Recipe}
use Rattle.calculus.specs.declared.Operation.TheVariants.{Sum, Difference, Product, Quotient}
use Rattle.calculus.specs.Orders.{some_above20, smallest}
use Rattle.roads.specs.Recipe.{names_earlier, worked}
use Rattle.roads.specs.Roads.{every_answer, built_surface, built_curve, build_then_carry, carry_then_build}
use Rattle.roads.specs.Formed.{carries_take, steps_take, numbers_formed}

-- entries [0][0], [0][1], [1][0]
abbrev surface : ℕ → List ℤ → SurfaceDerivatives
surface n l = record { order = n; entries = l ++ replicate 228 (pos 0) }

abbrev curve : ℕ → List ℤ → CurveDerivatives
curve n l = record { order = n; entries = l ++ replicate 18 (pos 0) }

-- u' = 3, v' = 2
abbrev along : ParameterCurve
along = record { order = 1; u = pos 0 ∷ pos 3 ∷ replicate 19 (pos 0); v = pos 0 ∷ pos 2 ∷ replicate 19 (pos 0) }

abbrev recipe : SurfaceDerivatives → SurfaceDerivatives → List Step → ℕ → Recipe SurfaceDerivatives
recipe a b program steps = record { inputs = 2; jets = a ∷ b ∷ surface 0 [] ∷ surface 0 [] ∷ []; steps = steps; program = program }

abbrev answered : ℕ → List ℤ → Result CurveDerivatives Refusal
answered n l = Ok (record { order = n; entries = l })

-- ---- a product, divided by its first factor: both roads are answered, with what is left of the product
abbrev divided-again : Recipe SurfaceDerivatives
divided-again =
    recipe (surface 1 (pos 2 ∷ pos 3 ∷ pos 5 ∷ [])) (surface 1 (pos 4 ∷ pos 1 ∷ pos 7 ∷ []))
    (record { operation = Product; left = 0; right = 1 } ∷ record { operation = Quotient; left = 2; right = 0 } ∷ []) 2

pub first-answered : build_then_carry divided-again along 1 ≡ answered 1 (pos 4 ∷ pos 23 ∷ replicate 19 (pos 0))
unfolding some_above20 smallest names_earlier worked unless_refused formed divided listed rows triangle index place in_turn in_rows before choose through_len along_list factors digits ones multiplicity divide runs runs_from total fact parts
first-answered = refl

pub second-answered : carry_then_build divided-again along 1 ≡ answered 1 (pos 4 ∷ pos 23 ∷ replicate 19 (pos 0))
unfolding every_answer some_above20 smallest names_earlier worked unless_refused formed divided listed index in_turn before choose through_len along_list factors digits ones multiplicity divide runs runs_from total fact parts
second-answered = refl

pub all-in-range : every in_range (numbers_formed divided-again along 1) ≡ true
unfolding carries_take steps_take histories numbers every listed index in_turn before choose through_len along_list factors digits ones multiplicity divide runs runs_from total fact parts
all-in-range = refl

-- ---- 2^62 along u, less 2^62 - 1: the first road is answered, and the second forms 3 · 2^62
abbrev cancelled : Recipe SurfaceDerivatives
cancelled =
    recipe (surface 1 (pos 1 ∷ pos 0 ∷ pos 4611686018427387904 ∷ [])) (surface 1 (pos 1 ∷ pos 0 ∷ pos 4611686018427387903 ∷ []))
    (record { operation = Difference; left = 0; right = 1 } ∷ []) 1

pub first-cancels : build_then_carry cancelled along 1 ≡ answered 1 (pos 0 ∷ pos 3 ∷ replicate 19 (pos 0))
unfolding some_above20 smallest names_earlier worked unless_refused formed listed rows triangle index place in_turn through_len along_list factors digits ones multiplicity divide runs runs_from total fact parts
first-cancels = refl

pub second-refused : carry_then_build cancelled along 1 ≡ Err OutOfRange
unfolding every_answer unless_refused formed listed index in_turn through_len along_list factors digits ones multiplicity divide runs runs_from total fact parts
second-refused = refl

pub one-out-of-range : every in_range (numbers_formed cancelled along 1) ≡ false
unfolding carries_take steps_take histories numbers every listed index in_turn through_len along_list factors digits ones multiplicity divide runs runs_from total fact parts
one-out-of-range = refl

-- ---- the second surface, which no step names, has the order 0: so has the result, and it cannot be carried at order 1
abbrev unused : Recipe SurfaceDerivatives
unused =
    recipe (surface 1 (pos 2 ∷ pos 3 ∷ pos 5 ∷ [])) (surface 0 (pos 1 ∷ []))
    (record { operation = Product; left = 0; right = 0 } ∷ []) 1

pub smallest-order : built_surface unused ≡ Ok (record { order = 0; entries = pos 4 ∷ replicate 230 (pos 0) })
unfolding some_above20 smallest names_earlier worked unless_refused formed listed rows triangle index place in_turn in_rows choose
smallest-order = refl

pub both-refused : (build_then_carry unused along 1 ≡ Err Shape) × (carry_then_build unused along 1 ≡ Err Shape)
unfolding every_answer some_above20 smallest names_earlier worked unless_refused formed listed rows triangle index place in_turn in_rows choose through_len along_list factors digits ones multiplicity divide runs runs_from total fact parts
both-refused = (refl, refl)

-- ---- curves: (1,2,3) times (4,5,6), divided by (1,2,3)
pub curves-divided : built_curve (record {
  inputs = 2;
  jets = curve 2 (pos 1 ∷ pos 2 ∷ pos 3 ∷ []) ∷ curve 2 (pos 4 ∷ pos 5 ∷ pos 6 ∷ []) ∷ curve 0 [] ∷ curve 0 [] ∷ [];
  steps = 2;
  program = record { operation = Product; left = 0; right = 1 } ∷ record { operation = Quotient; left = 2; right = 0 } ∷ [];
}) ≡ answered 2 (pos 4 ∷ pos 5 ∷ pos 6 ∷ replicate 18 (pos 0))
unfolding some_above20 smallest names_earlier worked unless_refused formed divided listed in_turn before choose
curves-divided = refl

-- ---- counts out of range, and a step that names itself
pub five-inputs : built_curve (record { inputs = 5; jets = replicate 4 (curve 0 []); steps = 1; program = record { operation = Sum; left = 0; right = 1 } ∷ [] }) ≡ Err NoRecipe
unfolding some_above20
five-inputs = refl

pub names-itself : built_surface (recipe (surface 0 []) (surface 0 []) (record { operation = Sum; left = 0; right = 2 } ∷ []) 1) ≡ Err NoRecipe
unfolding some_above20 names_earlier
names-itself = refl
