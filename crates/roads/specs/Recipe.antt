-- A recipe (document 01's term): from 1 to 4 jets, numbered from 0, 1 to 12 steps, numbered on from them, each the sum, difference, product or
-- quotient of two earlier jets. One definition over the kind of jet. Assumes nothing.
use Rattle.std.specs.Prelude.{Bool, true, false, cond, List, [], ◌∷◌, map, ℕ, suc, ◌-◌, ltb, eqb, get_or, take, Result, Ok, Err}
use Rattle.refusals.specs.declared.Refusal.{Refusal}
use Rattle.refusals.specs.declared.Refusal.TheVariants.{OrderAbove20, NoRecipe}
use Rattle.calculus.specs.declared.Operation.{Operation}
use Rattle.calculus.specs.Orders.{some_above20, smallest}
use Rattle.roads.specs.declared.Step.{Step}

-- what a recipe asks of its jets: their order, what stands past the end of a list of them, the same jet at a smaller order, whose entries past
-- it are not read, and the operations
pub record RecipeKind (J : Type 0) : Type 0 where
  pub order : J → ℕ
  pub blank : J
  pub cut : ℕ → J → J
  pub apply : Operation → J → J → Result J Refusal

-- a call on what the call before it answered, unless that was refused
abbrev pub and_then : {A B : Type 0} → Result A Refusal → (A → Result B Refusal) → Result B Refusal
and_then (Ok a) f = f a
and_then (Err c) f = Err c

-- the jets in hand, by number, and j as the number m
abbrev pub with : {J : Type 0} → (ℕ → J) → ℕ → J → ℕ → J
with jet-of m j i = cond (eqb i m) j (jet-of i)

-- each step names numbers before its own; m is the first one's
unfoldable pub names_earlier : ℕ → List Step → Bool
names_earlier m [] = true
names_earlier m (s ∷ ss) = cond (ltb s.left m) (cond (ltb s.right m) (names_earlier (suc m) ss) false) false

-- 1 to 4 jets, 1 to 12 steps, and each step names earlier numbers
abbrev pub well_formed : ℕ → ℕ → List Step → Bool
well_formed inputs steps program =
    cond (eqb inputs 0) false (cond (ltb 4 inputs) false (cond (eqb steps 0) false (cond (ltb 12 steps) false (names_earlier inputs program))))

module _ {J : Type 0} (K : RecipeKind J) where
  -- the steps in turn, on the jets before the number m: each adds its jet to those in hand, unless it is refused, which is the outcome then;
  -- the last number's jet is the result
  unfoldable pub worked : (ℕ → J) → ℕ → List Step → Result J Refusal
  worked jet-of m [] = Ok (jet-of (m - 1))
  worked jet-of m (s ∷ ss) = and_then (K.apply s.operation (jet-of s.left) (jet-of s.right)) (λ j. worked (with jet-of m j) (suc m) ss)

  -- the jets that are there have orders up to 20, or it is refused; the recipe is well formed, or it is refused; and every step works at the
  -- smallest order of all the jets given, used or not
  abbrev pub built : ℕ → List J → ℕ → List Step → Result J Refusal
  built inputs jets steps program =
      let given = take inputs jets in
      let orders = map K.order given in
      cond (some_above20 orders) (Err OrderAbove20)
      (cond (well_formed inputs steps (take steps program))
      (worked (λ i. K.cut (smallest orders) (get_or given i K.blank)) inputs (take steps program))
      (Err NoRecipe))
