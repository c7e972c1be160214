-- A recipe's checks and its work, put together, over any kind of jet that stands in an array of four. Assumes nothing.
use Rattle.std.proofs.Common.{Bool, true, false, cond, List, [], ◌∷◌, map, ◌≡◌, ℕ, zero, suc, ◌<◌, min, length, get_or, take, Result, Err, refl, sym, ap, ap₂, ◌∙◌, arith, take_all, length-take-le}
use native.Mathlib.Nat.{min-eq_left, min-eq_right}
use native.Mathlib.Decide.{dec_lt}
use Rattle.refusals.specs.declared.Refusal.{Refusal}
use Rattle.refusals.specs.declared.Refusal.TheVariants.{OrderAbove20, NoRecipe}
use Rattle.roads.specs.declared.Step.{Step}
use Rattle.roads.specs.Recipe.{RecipeKind, well_formed, worked, built}
use Rattle.calculus.specs.Orders.{some_above20, smallest}
use Rattle.roads.proofs.Inputs.{counts}
use Rattle.roads.proofs.Working.{worked_same}

pub take-map : {X Y : Type 0} (f : X → Y) (n : ℕ) (l : List X) → take n (map f l) ≡ map f (take n l)
take-map f zero l = refl
take-map f (suc n) [] = refl
take-map f (suc n) (x ∷ l) = ap (λ k. f x ∷ k) (take-map f n l)

-- of four places, as many as the count names
pub take-four : {X : Type 0} (l : List X) → length l ≡ 4 → (inputs g : ℕ) → g ≡ min inputs 4 → take g l ≡ take inputs l
take-four l four inputs g e = by (dec_lt inputs 4)
  where
    by : Dec (inputs < 4) → take g l ≡ take inputs l
    by (yes h) = ap (λ (k : ℕ). take k l) (e ∙ min-eq_left (omega arith))
    by (no h) = ap (λ (k : ℕ). take k l) (e ∙ min-eq_right (omega arith)) ∙ take_all 4 l (omega (arith, four)) ∙ sym (take_all inputs l (omega (arith, four)))

-- ---- the orders os of four jets, and how many of the four the count names
pub record Given {J : Type 0} (K : RecipeKind J) (jets : List J) (inputs : ℕ) (os : List ℕ) (g : ℕ) : Type 0 where
  pub four : length jets ≡ 4
  pub all : os ≡ map K.order jets
  pub count : g ≡ min inputs 4

module _ {J : Type 0} {K : RecipeKind J} {jets : List J} {inputs : ℕ} {os : List ℕ} {g : ℕ} (p : Given K jets inputs os g) (steps : ℕ) (program : List Step) where
  abbrev orders : List ℕ
  orders = map K.order (take inputs jets)

  abbrev outcome : Result J Refusal
  outcome = built K inputs jets steps program

  given-orders : take g os ≡ orders
  given-orders = ap (take g) p.all ∙ take-map K.order g jets ∙ ap (map K.order) (take-four jets p.four inputs g p.count)

  pub too-high : true ≡ some_above20 (take g os) → Err OrderAbove20 ≡ outcome
  too-high h = rw (← given-orders, ← h)

  module _ (h : false ≡ some_above20 (take g os)) where
    abbrev work : Result J Refusal
    work = worked K (λ i. K.cut (smallest orders) (get_or (take inputs jets) i K.blank)) inputs (take steps program)

    checked : (t : Bool) → t ≡ well_formed inputs steps (take steps program) → outcome ≡ cond t work (Err NoRecipe)
    checked t e = ap₂ (λ (x y : Bool). cond x (Err OrderAbove20) (cond y work (Err NoRecipe))) (ap some_above20 (sym given-orders) ∙ sym h) (sym e)

    pub ill-formed : false ≡ well_formed inputs steps (take steps program) → Err NoRecipe ≡ outcome
    ill-formed e = sym (checked false e)

    pub builds : true ≡ well_formed inputs steps (take steps program) → {n : ℕ} → n ≡ smallest (take g os) → (jet-of : List J) →
        ((i : ℕ) → i < length (take inputs jets) → get_or jet-of i K.blank ≡ K.cut n (get_or (take inputs jets) i K.blank)) →
        worked K (λ i. get_or jet-of i K.blank) inputs (take steps program) ≡ outcome
    builds e ne jet-of he =
        let c = counts inputs steps (take steps program) (sym e) in
        worked_same K (take steps program) (λ i. get_or jet-of i K.blank) (λ i. K.cut (smallest orders) (get_or (take inputs jets) i K.blank)) inputs c.some
        (λ i l. he i (omega (arith, l, length-take-le inputs jets (omega (arith, c.four, p.four)))) ∙ ap (λ (k : ℕ). K.cut k (get_or (take inputs jets) i K.blank)) (ne ∙ ap smallest given-orders)) c.names
        ∙ sym (checked true e)

-- ---- only the jets that are given count
pub built-same : {J : Type 0} (K : RecipeKind J) (inputs steps : ℕ) (program : List Step) (l k : List J) → take inputs l ≡ take inputs k →
    built K inputs l steps program ≡ built K inputs k steps program
built-same {J} K inputs steps program l k e =
    ap (λ (given : List J). cond (some_above20 (map K.order given)) (Err OrderAbove20)
    (cond (well_formed inputs steps (take steps program))
    (worked K (λ i. K.cut (smallest (map K.order given)) (get_or given i K.blank)) inputs (take steps program)) (Err NoRecipe))) e
