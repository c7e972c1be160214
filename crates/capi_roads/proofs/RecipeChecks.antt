-- What the tests of a recipe and of a road leave. Assumes nothing.
use Rattle.std.proofs.Common.{Bool, true, false, cond, List, ◌≡◌, ℕ, suc, ◌+◌, ◌*◌, ◌^◌, ◌<◌, max, refl, sym, ◌∙◌, suc-ne-zero, arith}
use prog.Memory.{up}
use Rattle.calculus.specs.Orders.{some_above20}
use Rattle.given.proofs.Admission.{one-fits, count_fits}
use Rattle.capi_roads.specs.Recipes.{surface_size, total, lists_given, recipe_given, road_given}

-- a test that gives no refusal is false
pub untaken : (t : Bool) (c x : ℕ) → cond t (suc c) x ≡ 0 → (t ≡ false) × (x ≡ 0)
untaken true c x e = absurd (suc-ne-zero c e)
untaken false c x e = (refl, e)

-- the lists of jets, which have l numbers together: no order is above 20, and there are as many numbers as are due
module _ (size : ℕ → ℕ) (orders : List ℕ) (l : ℕ) where
  pub fit : lists_given size orders l ≡ 0 → (some_above20 orders ≡ false) × (l ≡ total size orders)
  fit e =
      let p = untaken (some_above20 orders) 0 _ e in
      (p.0, count_fits (total size orders) l p.1)

  pub recipe-fits : (test : ℕ → ℕ → ℕ) (steps : List ℕ) (o : ℕ) {r : ℕ} → r ≡ recipe_given size test orders l steps o → r ≡ 0 → (some_above20 orders ≡ false) × (l ≡ total size orders)
  unfolding recipe_given
  recipe-fits test steps o e z = fit (one-fits _ _ (sym e ∙ z))

pub road-fits : (orders : List ℕ) (l : ℕ) (steps : List ℕ) (m c n o : ℕ) {r : ℕ} → r ≡ road_given orders l steps m c n o → r ≡ 0 →
    (some_above20 orders ≡ false) × (l ≡ total surface_size orders)
unfolding road_given
road-fits orders l steps m c n o e z = fit surface_size orders l (one-fits _ _ (sym e ∙ z))

-- a recipe fits in memory, where sixteen of its jets do: its counts, four jets and twelve steps, each at its alignment
up-8 : (e : ℕ) → up 8 e < e + 8
up-8 e = omega arith

pub fits-memory : (a s : ℕ) → a ≡ 8 → 16 * s < 2 ^ 63 → up (max 8 (max a 8)) (up 8 (up 8 (up a 8 + 4 * s) + 8) + 288) < 2 ^ 63
fits-memory a s e h =
    let x = up 8 8 + 4 * s in
    let y = up 8 x + 8 in
    let z = up 8 y + 288 in
    rw e (omega (arith, h, up-8 8, up-8 x, up-8 y, up-8 z))
