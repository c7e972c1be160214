-- The functions over lists are the methods of `roads`. Wherever the lists are jets, a road over lists gives just what the road gives for the recipe, the
-- curve and the order that they describe: the number is that of the road's refusal, or 0, and the list lent holds all entries of the jet that the road
-- answers, or stays as it was. The same holds of recipes. `ListsOfRoad` and `ListsOfRecipe` say what it takes that the lists are jets; the tests before
-- the road pass just there. Assumes nothing.
use Rattle.std.proofs.Common.{Bool, true, false, cond, List, [], ◌∷◌, map, ◌≡◌, ℕ, zero, suc, ◌+◌, ◌*◌, ◌/◌, ◌%◌, ◌≤◌, ◌<◌, ltb, eqb, ℤ, length, get_or, take, drop, Result, Ok, Err, refl, sym, ap, ◌∙◌, not-suc-le-zero, le_of_suc-le-suc, arith, length-drop, length-take-le, get_or-take, ext_get_or, lt-ltb, le-ltb, ltb-false, eq-eqb, ne_eqb}
use native.Mathlib.Decide.{ℕ_discrete, dec_lt}
use lib.ListN.{length-map}
use Rattle.std.specs.Result.{result_unwrap_or}
use Rattle.refusals.specs.declared.Refusal.{Refusal}
use Rattle.calculus.specs.Array.{filled}
use Rattle.calculus.specs.Graded.{triangle}
use Rattle.calculus.specs.Orders.{some_above20, smallest}
use Rattle.calculus.specs.JetKind.{JetKind, jet_of, answered, from_list, jet_of_list}
use Rattle.calculus.proofs.LoopFilling.{filled-length, filled_at}
use Rattle.calculus.proofs.Tested.{plain-is, list-is}
use Rattle.exact.specs.declared.CurveDerivatives.{CurveDerivatives}
use Rattle.exact.specs.declared.SurfaceDerivatives.{SurfaceDerivatives}
use Rattle.exact.specs.declared.ParameterCurve.{ParameterCurve}
use Rattle.exact.specs.Answer.{surfaces, parameters, curves}
use Rattle.roads.specs.declared.Step.{Step}
use Rattle.roads.specs.declared.Recipe.{Recipe}
use Rattle.roads.specs.Recipe.{names_earlier, well_formed}
use Rattle.roads.specs.Roads.{built_surface, built_curve, build_then_carry, carry_then_build}
use Rattle.roads.proofs.Inputs.{at_map, smallest-20}
use Rattle.roads.proofs.Answered.{surfaces-keep, curves-keep, built-order, first-road-order, second-road-order}
use Rattle.given.specs.Given.{first, list_given}
use Rattle.given.specs.Lists.{deliver, admitted}
use Rattle.given.proofs.Delivered.{whole, delivered}
use Rattle.given.proofs.Admission.{one-fits, rest-fits, count_fits}
use Rattle.capi_roads.specs.Recipes.{surface_size, total, jet_at, step_of, step_at, blank_step, no_step, recipe_of, surface_recipe, curve_recipe, result_given, lent_given, recipe_given, road_given, recipe_into, surface_recipe_into, curve_recipe_into, road_into}
use Rattle.capi_roads.proofs.RecipeChecks.{untaken, fit}
use Rattle.capi_roads.proofs.RecipeLists.{below-20, within-entries}

-- ---- lists that are jets: no order is above 20, there are as many entries as are due, and a step is three numbers
pub record ListsOfJets (size : ℕ → ℕ) (orders : List ℕ) (entries : List ℤ) (steps : List ℕ) : Type 0 where
  pub low : some_above20 orders ≡ false
  pub all : length entries ≡ total size orders
  pub threes : length steps % 3 ≡ 0

-- a recipe's, with the list lent for its result, which has the smallest order
pub record ListsOfRecipe (size : ℕ → ℕ) (orders : List ℕ) (entries : List ℤ) (steps : List ℕ) (out : List ℤ) : Type 0 where
  pub jets : ListsOfJets size orders entries steps
  pub lent : 0 < length orders → length out ≡ size (smallest orders)

-- a road's, with the list of a curve of the order m, and the one lent for an order n asked, of which nothing is due above 20
pub record ListsOfRoad (orders : List ℕ) (entries : List ℤ) (steps : List ℕ) (m : ℕ) (c : List ℤ) (n : ℕ) (out : List ℤ) : Type 0 where
  pub jets : ListsOfJets surface_size orders entries steps
  pub curve : m ≤ 20
  pub pairs : length c ≡ 2 * suc m
  pub lent : n ≤ 20 → length out ≡ suc n

-- what a caller gets of an answer: all entries of the jet, beside 0; or the refusal's number, and the list lent as it was
abbrev pub handed : {X E J : Type 0} → JetKind X E J → Result J Refusal → List X → ℕ × List X
handed K = (whole K).deliver

-- ---- the jets of the lists
module _ {E J : Type 0} (K : JetKind ℤ E J) (orders : List ℕ) (entries : List ℤ) {steps : List ℕ} (g : ListsOfJets K.count orders entries steps) (i : ℕ) (h : i < length orders) where
  abbrev order : ℕ
  order = get_or orders i 0

  -- the list of the jet i
  abbrev piece : List ℤ
  piece = take (K.count order) (drop (total K.count (take i orders)) entries)

  low : order ≤ 20
  low = below-20 orders g.low i h

  piece-length : length piece ≡ K.count order
  piece-length =
      let p = total K.count (take i orders) in
      let w = within-entries K.count orders i h p (K.count order) (length entries) refl refl g.all in
      length-take-le (K.count order) (drop p entries) (omega (arith, w, length-drop p entries))

  -- it is one that `from_list` answers
  pub piece-answered : ((l : List ℤ) → true ≡ K.finite_list l) → from_list K order piece ≡ answered K order (K.in_list order piece)
  piece-answered finite = sym (list-is K order piece low refl piece-length (finite piece) refl)

  jet-order : ((n : ℕ) (x : E) → K.order (K.made n x) ≡ n) → K.order (jet_at K.count (jet_of_list K) orders entries i) ≡ order
  unfolding jet_at
  jet-order made = ap (λ (a : Result J Refusal). K.order (jet_of K a)) (sym (plain-is K order piece low refl piece-length)) ∙ made order (K.in_list order piece)

-- the orders of a recipe's jets are those given
module _ {E J : Type 0} (K : JetKind ℤ E J) (made : (n : ℕ) (x : E) → K.order (K.made n x) ≡ n) (blank : J)
    (orders : List ℕ) (entries : List ℤ) {steps : List ℕ} (g : ListsOfJets K.count orders entries steps) (four : length orders ≤ 4) where
  abbrev jet : ℕ → J
  jet = jet_at K.count (jet_of_list K) orders entries

  abbrev held : List J
  held = filled 4 blank jet (length orders)

  held-length : length (take (length orders) held) ≡ length orders
  held-length = length-take-le (length orders) held (omega (arith, filled-length 4 blank blank jet (length orders)))

  orders-are : map K.order (take (length orders) held) ≡ orders
  orders-are = ext_get_or 0 (map K.order (take (length orders) held)) orders long (λ i l. at i (omega (arith, long)))
    where
      long : length (map K.order (take (length orders) held)) ≡ length orders
      long = length-map (take (length orders) held) K.order ∙ held-length

      at : (i : ℕ) → i < length orders → get_or (map K.order (take (length orders) held)) i 0 ≡ get_or orders i 0
      at i h =
          at_map K.order (take (length orders) held) i blank 0 (omega (arith, held-length))
          ∙ ap K.order (get_or-take (length orders) held i blank h ∙ filled_at 4 blank blank jet (length orders) i (omega arith) ∙ ap (λ (t : Bool). cond t (jet i) blank) (lt-ltb i (length orders) h))
          ∙ jet-order K orders entries g i h made

-- ---- the tests pass just where the lists are jets
module _ (n o : ℕ) where
  lent-tested : (n ≤ 20 → o ≡ suc n) → lent_given n o ≡ 0
  lent-tested h = by (dec_lt 20 n)
    where
      by : Dec (20 < n) → lent_given n o ≡ 0
      by (yes l) = rw (lt-ltb 20 n l)
      by (no l) = let k : n ≤ 20 = omega arith in rw (le-ltb 20 n k, eq-eqb o (suc n) (h k))

  lent_fits : lent_given n o ≡ 0 → n ≤ 20 → o ≡ suc n
  lent_fits e h = count_fits (suc n) o (rw (le-ltb 20 n h) at e)

module _ (size : ℕ → ℕ) (orders : List ℕ) (o : ℕ) where
  result-tested : (0 < length orders → o ≡ size (smallest orders)) → result_given (list_given size) orders o ≡ 0
  result-tested h = by (ℕ_discrete (length orders) 0)
    where
      by : Dec (length orders ≡ 0) → result_given (list_given size) orders o ≡ 0
      by (yes q) = rw (eq-eqb (length orders) 0 q)
      by (no q) = rw (ne_eqb (length orders) 0 q, le-ltb 20 (smallest orders) (smallest-20 orders), eq-eqb o (size (smallest orders)) (h (omega arith)))

  result_fits : result_given (list_given size) orders o ≡ 0 → 0 < length orders → o ≡ size (smallest orders)
  result_fits e p =
      count_fits (size (smallest orders)) o (rw (ne_eqb (length orders) 0 (λ q. omega arith), le-ltb 20 (smallest orders) (smallest-20 orders)) at e)

module _ (size : ℕ → ℕ) (orders : List ℕ) (entries : List ℤ) (steps : List ℕ) (out : List ℤ) where
  pub recipe-tested : ListsOfRecipe size orders entries steps out → recipe_given size (list_given size) orders (length entries) steps (length out) ≡ 0
  unfolding recipe_given first
  recipe-tested g =
      rw (g.jets.low, eq-eqb (length entries) (total size orders) g.jets.all, eq-eqb (length steps % 3) 0 g.jets.threes)
      (result-tested size orders (length out) g.lent)

  pub tested-recipe : recipe_given size (list_given size) orders (length entries) steps (length out) ≡ 0 → ListsOfRecipe size orders entries steps out
  unfolding recipe_given
  tested-recipe e =
      let p = fit size orders (length entries) (one-fits _ _ e) in
      let q = rest-fits _ _ e in
      record { jets = record { low = p.0; all = p.1; threes = count_fits 0 (length steps % 3) (one-fits _ _ q) }; lent = result_fits size orders (length out) (rest-fits _ _ q) }

module _ (orders : List ℕ) (entries : List ℤ) (steps : List ℕ) (m : ℕ) (c : List ℤ) (n : ℕ) (out : List ℤ) where
  pub road-tested : ListsOfRoad orders entries steps m c n out → road_given orders (length entries) steps m (length c) n (length out) ≡ 0
  unfolding road_given first
  road-tested g =
      rw (g.jets.low, eq-eqb (length entries) (total surface_size orders) g.jets.all, eq-eqb (length steps % 3) 0 g.jets.threes, le-ltb 20 m g.curve, eq-eqb (length c) (2 * suc m) g.pairs)
      (lent-tested n (length out) g.lent)

  pub tested-road : road_given orders (length entries) steps m (length c) n (length out) ≡ 0 → ListsOfRoad orders entries steps m c n out
  unfolding road_given
  tested-road e =
      let p = fit surface_size orders (length entries) (one-fits _ _ e) in
      let q = rest-fits _ _ e in
      let r = rest-fits _ _ q in
      let u = untaken (ltb 20 m) 0 _ (one-fits _ _ r) in
      record {
        jets = record { low = p.0; all = p.1; threes = count_fits 0 (length steps % 3) (one-fits _ _ q) };
        curve = ltb-false 20 m u.0;
        pairs = count_fits (2 * suc m) (length c) u.1;
        lent = lent_fits n (length out) (rest-fits _ _ r);
      }

-- ---- THE THEOREMS: the two roads, and the two recipes
module _ (orders : List ℕ) (entries : List ℤ) (steps : List ℕ) (m : ℕ) (c : List ℤ) (n : ℕ) (out : List ℤ) (g : ListsOfRoad orders entries steps m c n out) where
  abbrev recipe : Recipe SurfaceDerivatives
  recipe = surface_recipe orders entries steps

  abbrev curve : ParameterCurve
  curve = jet_of_list parameters m c

  -- an answer of the order n is handed over whole
  asked : (a : Result CurveDerivatives Refusal) → ((j : CurveDerivatives) → a ≡ Ok j → (j.order ≡ n) × (n ≤ 20)) → deliver curves a out ≡ handed curves a out
  unfolding deliver
  asked (Ok j) h =
      let o = h j refl in
      delivered curves n (Ok j) out (record { order = o.0; low = o.1; finite = refl }) (λ _ _. g.lent o.1)
  asked (Err c) h = refl

  road-handed : (road : Recipe SurfaceDerivatives → ParameterCurve → ℕ → Result CurveDerivatives Refusal) →
      ((j : CurveDerivatives) → road recipe curve n ≡ Ok j → (j.order ≡ n) × (n ≤ 20)) →
      road_into road orders entries steps m c n out ≡ handed curves (road recipe curve n) out
  unfolding road_into
  road-handed road h =
      let a = road recipe curve n in
      ap (λ (t : ℕ). admitted t out (deliver curves a out)) (road-tested orders entries steps m c n out g) ∙ asked a h

  pub build-then-carry-is : road_into build_then_carry orders entries steps m c n out ≡ handed curves (build_then_carry recipe curve n) out
  build-then-carry-is = road-handed build_then_carry (λ j. first-road-order curve n recipe)

  pub carry-then-build-is : road_into carry_then_build orders entries steps m c n out ≡ handed curves (carry_then_build recipe curve n) out
  unfolding recipe_of
  carry-then-build-is =
      road-handed carry_then_build
      (λ j. second-road-order curve n recipe (filled-length 4 (jet_of_list surfaces 0 []) (jet_of_list surfaces 0 []) (jet_at surface_size (jet_of_list surfaces) orders entries) (length orders)))

module _ (orders : List ℕ) (entries : List ℤ) (steps : List ℕ) (out : List ℤ) where
  -- an answer of the smallest order is handed over whole
  smallest-handed : {E J : Type 0} (K : JetKind ℤ E J) (finite : (x : E) (n : ℕ) → K.finite x n ≡ true) (lent : 0 < length orders → length out ≡ K.count (smallest orders))
      (a : Result J Refusal) → ((j : J) → a ≡ Ok j → (0 < length orders) × (K.order j ≡ smallest orders)) → deliver K a out ≡ handed K a out
  unfolding deliver
  smallest-handed K finite lent (Ok j) h =
      let o = h j refl in
      delivered K (smallest orders) (Ok j) out (record { order = o.1; low = smallest-20 orders; finite = finite (K.numbers j) (smallest orders) }) (λ _ _. lent o.0)
  smallest-handed K finite lent (Err c) h = refl

  pub recipe-surfaces-is : ListsOfRecipe surface_size orders entries steps out →
      surface_recipe_into orders entries steps out ≡ handed surfaces (built_surface (surface_recipe orders entries steps)) out
  unfolding recipe_into recipe_of
  recipe-surfaces-is g =
      let r = surface_recipe orders entries steps in
      ap (λ (t : ℕ). admitted t out (deliver surfaces (built_surface r) out)) (recipe-tested surface_size orders entries steps out g)
      ∙ smallest-handed surfaces (λ x n. refl) g.lent (built_surface r)
      (λ j e. let o = built-order surfaces-keep r.inputs r.jets r.steps r.program e in (o.0, o.2 ∙ ap smallest (orders-are surfaces (λ n x. refl) (jet_of_list surfaces 0 []) orders entries g.jets o.1)))

  pub recipe-curves-is : ListsOfRecipe suc orders entries steps out →
      curve_recipe_into orders entries steps out ≡ handed curves (built_curve (curve_recipe orders entries steps)) out
  unfolding recipe_into recipe_of
  recipe-curves-is g =
      let r = curve_recipe orders entries steps in
      ap (λ (t : ℕ). admitted t out (deliver curves (built_curve r) out)) (recipe-tested suc orders entries steps out g)
      ∙ smallest-handed curves (λ x n. refl) g.lent (built_curve r)
      (λ j e. let o = built-order curves-keep r.inputs r.jets r.steps r.program e in (o.0, o.2 ∙ ap smallest (orders-are curves (λ n x. refl) (jet_of_list curves 0 []) orders entries g.jets o.1)))

-- past the jets that are given stands the zero jet of order 0
pub past-given : (jet_of_list surfaces 0 [] ≡ surfaces.none) × (jet_of_list curves 0 [] ≡ curves.none)
unfolding triangle
past-given = (refl, refl)

-- ---- a step of an operation that there is not: whatever else is given, the recipe is not well formed, and so is refused 4 where the road comes to it
names-later : (ss : List Step) (m i : ℕ) → i < length ss → m + i ≤ (get_or ss i blank_step).left → names_earlier m ss ≡ false
unfolding names_earlier
names-later [] m i h b = absurd (not-suc-le-zero h)
names-later (s ∷ ss) m zero h b = rw (le-ltb s.left m (omega (arith, b)))
names-later (s ∷ ss) m (suc i) h b =
    neither (ltb s.left m) (ltb s.right m) (names-later ss (suc m) i (le_of_suc-le-suc h) (omega (arith, b)))
  where
    neither : (t u : Bool) {x : Bool} → x ≡ false → cond t (cond u x false) false ≡ false
    neither true true e = e
    neither true false e = refl
    neither false u e = refl

module _ (orders steps : List ℕ) (i : ℕ) (h : i < length steps / 3) (unknown : 3 < get_or steps (3 * i) 0) where
  abbrev count : ℕ
  count = length steps / 3

  abbrev program : List Step
  program = filled 12 blank_step (step_at steps) count

  names-sixteen : count ≤ 12 → (get_or (take count program) i blank_step).left ≡ 16
  unfolding step_at
  names-sixteen b =
      ap (λ (s : Step). s.left)
      (get_or-take count program i blank_step h ∙ filled_at 12 blank_step blank_step (step_at steps) count i (omega arith)
      ∙ ap (λ (t : Bool). cond t (step_at steps i) blank_step) (lt-ltb i count h))
      ∙ none (get_or steps (3 * i) 0) (get_or steps (3 * i + 1) 0) (get_or steps (3 * i + 2) 0) unknown
    where
      none : (op l r : ℕ) → 3 < op → (result_unwrap_or (step_of op l r) no_step).left ≡ 16
      none op l r u = rw (ne_eqb op 0 (λ e. omega arith), ne_eqb op 1 (λ e. omega arith), ne_eqb op 2 (λ e. omega arith), ne_eqb op 3 (λ e. omega arith))

  pub unknown-operation : well_formed (length orders) count (take count program) ≡ false
  unknown-operation =
      refuses (eqb (length orders) 0) (ltb 4 (length orders)) (eqb count 0) (ltb 12 count) (λ p q.
      let b = ltb-false 12 count q in
      let l = length-take-le count program (omega (arith, filled-length 12 blank_step blank_step (step_at steps) count)) in
      names-later (take count program) (length orders) i (omega (arith, l)) (omega (arith, ltb-false 4 (length orders) p, names-sixteen b)))
    where
      refuses : (a b c d : Bool) {x : Bool} → (b ≡ false → d ≡ false → x ≡ false) → cond a false (cond b false (cond c false (cond d false x))) ≡ false
      refuses true b c d f = refl
      refuses false true c d f = refl
      refuses false false true d f = refl
      refuses false false false true f = refl
      refuses false false false false f = f refl refl
