-- The small inputs of document 01's refusal table, each as what a public function's contract says of it. By computation; assumes nothing.
use Rattle.std.proofs.Common.{◌≡◌, refl, List, [], ◌∷◌, ℕ, ℤ, pos, replicate}
use lib.Ieee.{Float, of_bits, of_int, add, mul}
use Rattle.partitions.specs.Walk.{started}
use Rattle.whole.specs.Checked.{formed, divided}
use Rattle.calculus.specs.InTurn.{in_turn}
use Rattle.calculus.specs.Rising.{before}
use Rattle.calculus.specs.Choose.{choose}
use Rattle.calculus.specs.Array.{listed}
use Rattle.calculus.specs.Curve.{product, quotient}
use Rattle.exact_formulas.specs.Kinds.{checked}
use Rattle.std.specs.Prelude.{Err}
use Rattle.refusals.specs.declared.Refusal.TheVariants.{OrderAbove20, Shape, NoPartList, NoRecipe, DivisionByZero, Remainder, AnswerNotFinite}
use Rattle.exact.specs.Answer.{on_curves}
use Rattle.exact_formulas.specs.Entries.{unless_refused}
use Rattle.exact.specs.Composite.{along_curve}
use Rattle.roads.specs.declared.Step.{Step}
use Rattle.calculus.specs.declared.Operation.TheVariants.{Sum}
use Rattle.roads.specs.Recipe.{names_earlier}
use Rattle.calculus.specs.Orders.{some_above20}
use Rattle.roads.specs.Roads.{built_surface}
use Rattle.ieee_vectors.proofs.Floats.{huge}
use Rattle.derivatives.specs.declared.CurveDerivatives.{CurveDerivatives}
use Rattle.ieee_vectors.specs.Vectors.{positive_zero}
use Rattle.formulas.specs.Real.{real}
use Rattle.formulas.specs.Numbers.{all_pass}
use Rattle.calculus.specs.JetKind.{by_formula}
use Rattle.derivatives.specs.Answer.{curves}
use Rattle.figures.proofs.Figures.{jet, given, curve}

-- 1: a jet of order 21
pub order-21 : (l : List ℤ) → on_curves (product checked) (jet 3 l) (record { order = 21; entries = l }) ≡ Err OrderAbove20
order-21 l = refl

-- 2: carried at order 3 along a curve of order 2
pub carried-at-3 : along_curve given curve 3 ≡ Err Shape
carried-at-3 = refl

-- 3: order 2, len 3
pub len-3 : started 2 3 ≡ Err NoPartList
unfolding started
len-3 = refl

-- 4: the first step names 5
abbrev step : ℕ → Step
step m = record { operation = Sum; left = 0; right = m }

pub names-5 : built_surface (record { inputs = 1; jets = replicate 4 given; steps = 1; program = replicate 12 (step 5) }) ≡ Err NoRecipe
unfolding names_earlier some_above20
names-5 = refl

-- 5 and 6 are `radius-nan` and `normals-equal` of rolling_ball_fillet/proofs/CenterFigures.antt

-- 7: (4)/(0)
pub by_zero : on_curves (quotient checked) (jet 0 (pos 4 ∷ [])) (jet 0 (pos 0 ∷ [])) ≡ Err DivisionByZero
unfolding choose in_turn before formed divided unless_refused listed
by_zero = refl

-- 8: (5)/(2)
pub with-remainder : on_curves (quotient checked) (jet 0 (pos 5 ∷ [])) (jet 0 (pos 2 ∷ [])) ≡ Err Remainder
unfolding choose in_turn before formed divided unless_refused listed
with-remainder = refl

-- 9 is `times-two` of the figures

-- 10: 1e308 times 1e308
abbrev single : Float → CurveDerivatives
single x = record { order = 0; entries = x ∷ replicate 20 positive_zero }

pub overflow : by_formula curves curves curves (product real) (single huge) (single huge) ≡ Err AnswerNotFinite
unfolding choose in_turn add mul of_bits of_int all_pass
overflow = refl

-- 11 is `pair-2-1` of rolling_ball_fillet/proofs/PartialFigures.antt
