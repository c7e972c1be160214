-- Recipes of surfaces and of curves; and the two roads (document 01's term) from surfaces, steps, a curve in their parameters and an order to the
-- derivatives along the curve. Each jet that a call returns is handed on unchanged. Assumes nothing.
use Rattle.std.specs.Prelude.{List, [], ◌∷◌, map, ℕ, take, Result, Ok}
use Rattle.refusals.specs.declared.Refusal.{Refusal}
use Rattle.exact.specs.declared.CurveDerivatives.{CurveDerivatives}
use Rattle.exact.specs.declared.SurfaceDerivatives.{SurfaceDerivatives}
use Rattle.exact.specs.declared.ParameterCurve.{ParameterCurve}
use Rattle.exact_formulas.specs.Kinds.{checked}
use Rattle.exact.specs.Answer.{on_curves, on_surfaces}
use Rattle.exact.specs.Composite.{along_curve}
use Rattle.roads.specs.declared.Recipe.{Recipe}
use Rattle.calculus.specs.Operation.{curve_operation, surface_operation}
use Rattle.roads.specs.Recipe.{RecipeKind, and_then, built}

abbrev pub surface_steps : RecipeKind SurfaceDerivatives
surface_steps = record { order = λ s. s.order; blank = record { order = 0; entries = [] }; cut = λ n s. record { order = n; entries = s.entries }; apply = λ op. on_surfaces (surface_operation checked op) }

abbrev pub curve_steps : RecipeKind CurveDerivatives
curve_steps = record { order = λ a. a.order; blank = record { order = 0; entries = [] }; cut = λ n a. record { order = n; entries = a.entries }; apply = λ op. on_curves (curve_operation checked op) }

abbrev pub built_surface : Recipe SurfaceDerivatives → Result SurfaceDerivatives Refusal
built_surface r = built surface_steps r.inputs r.jets r.steps r.program

abbrev pub built_curve : Recipe CurveDerivatives → Result CurveDerivatives Refusal
built_curve r = built curve_steps r.inputs r.jets r.steps r.program

-- the first road: work the recipe on the surfaces, then carry its result
abbrev pub build_then_carry : Recipe SurfaceDerivatives → ParameterCurve → ℕ → Result CurveDerivatives Refusal
build_then_carry r c n = and_then (built_surface r) (λ s. along_curve s c n)

-- what calls made in turn answer: all their jets, or the first refusal
unfoldable pub every_answer : {J : Type 0} → List (Result J Refusal) → Result (List J) Refusal
every_answer [] = Ok []
every_answer (a ∷ rest) = and_then a (λ j. and_then (every_answer rest) (λ js. Ok (j ∷ js)))

-- the second road: carry every surface given, used or not, by rising number, then work the same steps on the curves. A count out of range is
-- refused by the recipe, and so after the carries
abbrev pub carry_then_build : Recipe SurfaceDerivatives → ParameterCurve → ℕ → Result CurveDerivatives Refusal
carry_then_build r c n =
    and_then (every_answer (map (λ s. along_curve s c n) (take r.inputs r.jets))) (λ curves. built_curve (record { inputs = r.inputs; jets = curves; steps = r.steps; program = r.program }))
