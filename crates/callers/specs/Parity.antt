-- Parities as jets of a recipe: of an operation, whether its result is odd. Assumes nothing.
use Rattle.std.specs.Prelude.{Bool, false, cond, not, Result, Ok, Err}
use Rattle.refusals.specs.declared.Refusal.{Refusal}
use Rattle.refusals.specs.declared.Refusal.TheVariants.{DivisionByZero}
use Rattle.calculus.specs.declared.Operation.{Operation}
use Rattle.calculus.specs.declared.Operation.TheVariants.{Sum, Difference, Product, Quotient}
use Rattle.roads.specs.Recipe.{RecipeKind}
use Rattle.callers.specs.declared.recipes.Parity.{Parity}

abbrev pub with_odd : Parity → Bool → Parity
with_odd a t = record { order = a.order; odd = t }

abbrev pub by_parity : Operation → Parity → Parity → Result Parity Refusal
by_parity Sum a b = Ok (with_odd a (cond a.odd (not b.odd) b.odd))
by_parity Difference a b = Ok (with_odd a (cond a.odd (not b.odd) b.odd))
by_parity Product a b = Ok (with_odd a (cond a.odd b.odd false))
by_parity Quotient a b = cond b.odd (Ok (with_odd a a.odd)) (Err DivisionByZero)

abbrev pub parity : RecipeKind Parity
parity = record { order = λ a. a.order; blank = record { order = 0; odd = false }; cut = λ n a. record { order = n; odd = a.odd }; apply = by_parity }
