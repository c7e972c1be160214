-- The numbers of the refusals: from 1 to 11, each refusal's own, and in the order of the refusals. Assumes nothing.
use Rattle.std.proofs.Common.{◌≡◌, ◌<◌, ◌-◌, min, ℕ, List, [], ◌∷◌, map, refl, sym, ap, ◌∙◌, arith}
use Rattle.std.specs.Prelude.{get_or}
use Rattle.std.specs.Ordering.{ord_min}
use Rattle.refusals.specs.Number.{number}
use Rattle.refusals.specs.contracts.RefusalOrd.TheImpl as order
use Rattle.refusals.specs.declared.Refusal.{Refusal}
use Rattle.refusals.specs.declared.Refusal.TheVariants.{OrderAbove20, Shape, NoPartList, NoRecipe, InputNotFinite, ZeroDeterminant, DivisionByZero, Remainder, OutOfRange, AnswerNotFinite, PairNotServed}

pub number-pos : (r : Refusal) → 0 < number r
number-pos OrderAbove20 = omega arith
number-pos Shape = omega arith
number-pos NoPartList = omega arith
number-pos NoRecipe = omega arith
number-pos InputNotFinite = omega arith
number-pos ZeroDeterminant = omega arith
number-pos DivisionByZero = omega arith
number-pos Remainder = omega arith
number-pos OutOfRange = omega arith
number-pos AnswerNotFinite = omega arith
number-pos PairNotServed = omega arith

-- all refusals, in the order of their numbers
abbrev refusals : List Refusal
refusals = OrderAbove20 ∷ Shape ∷ NoPartList ∷ NoRecipe ∷ InputNotFinite ∷ ZeroDeterminant ∷ DivisionByZero ∷ Remainder ∷ OutOfRange ∷ AnswerNotFinite ∷ PairNotServed ∷ []

-- a list by refusal has what belongs to each at the place of its number
module _ {X : Type 0} (f : Refusal → X) (d : X) where
  at_number : (r : Refusal) → get_or (map f refusals) (number r - 1) d ≡ f r
  at_number OrderAbove20 = refl
  at_number Shape = refl
  at_number NoPartList = refl
  at_number NoRecipe = refl
  at_number InputNotFinite = refl
  at_number ZeroDeterminant = refl
  at_number DivisionByZero = refl
  at_number Remainder = refl
  at_number OutOfRange = refl
  at_number AnswerNotFinite = refl
  at_number PairNotServed = refl

-- one number, one refusal
pub number-injective : (r s : Refusal) → number r ≡ number s → r ≡ s
number-injective r s e =
    let f : Refusal → Refusal = λ r. r in
    sym (at_number f r r) ∙ ap (λ (n : ℕ). get_or (map f refusals) (n - 1) r) e ∙ at_number f r s

-- two functions of two refusals agree where their tables do
tables : (f g : Refusal → Refusal → ℕ) → map (λ r. map (f r) refusals) refusals ≡ map (λ r. map (g r) refusals) refusals → (r s : Refusal) → f r s ≡ g r s
tables f g e r s =
    let row : map (f r) refusals ≡ map (g r) refusals =
    sym (at_number (λ r. map (f r) refusals) [] r) ∙ ap (λ (t : List (List ℕ)). get_or t (number r - 1) []) e ∙ at_number (λ r. map (g r) refusals) [] r
    in
    sym (at_number (f r) 0 s) ∙ ap (λ (l : List ℕ). get_or l (number s - 1) 0) row ∙ at_number (g r) 0 s

-- the lesser of two refusals has the lesser number
pub number-min : (r s : Refusal) → number (ord_min order.cmp-value.it r s) ≡ min (number r) (number s)
number-min = tables (λ r s. number (ord_min order.cmp-value.it r s)) (λ r s. min (number r) (number s)) refl
