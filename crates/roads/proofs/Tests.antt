-- The checks of a recipe, one step at a time. Assumes nothing.
use Rattle.std.proofs.Common.{Bool, true, false, cond, List, ◌≡◌, ℕ, ◌+◌, ◌≤◌, ◌<◌, ltb, length, get_or, drop, sym, ap, ap₂, ◌∙◌, add-one, drop-cons, drop_of_length-le, lt-ltb, le-ltb}
use Rattle.roads.specs.declared.Step.{Step}
use Rattle.roads.specs.Recipe.{names_earlier}

-- ---- the steps from i on
module _ (program : List Step) (d : Step) (i m : ℕ) (h : i < length program) where
  abbrev step : Step
  step = get_or program i d

  abbrev later : Bool
  later = names_earlier (m + 1) (drop (i + 1) program)

  names_at : names_earlier m (drop i program) ≡ cond (ltb step.left m) (cond (ltb step.right m) later false) false
  unfolding names_earlier
  names_at =
      ap (names_earlier m) (drop-cons program i d h)
      ∙ ap₂ (λ (k n : ℕ). cond (ltb step.left m) (cond (ltb step.right m) (names_earlier k (drop n program)) false) false) (sym (add-one m)) (sym (add-one i))

  pub names-left : m ≤ step.left → names_earlier m (drop i program) ≡ false
  names-left b = names_at ∙ ap (λ (t : Bool). cond t (cond (ltb step.right m) later false) false) (le-ltb step.left m b)

  pub names-right : step.left < m → m ≤ step.right → names_earlier m (drop i program) ≡ false
  names-right a b =
      names_at ∙ ap₂ (λ (t u : Bool). cond t (cond u later false) false) (lt-ltb step.left m a) (le-ltb step.right m b)

  pub names-later : step.left < m → step.right < m → names_earlier m (drop i program) ≡ later
  names-later a b =
      names_at ∙ ap₂ (λ (t u : Bool). cond t (cond u later false) false) (lt-ltb step.left m a) (lt-ltb step.right m b)

pub names-none : (program : List Step) (i m : ℕ) → length program ≤ i → names_earlier m (drop i program) ≡ true
unfolding names_earlier
names-none program i m h = ap (names_earlier m) (drop_of_length-le program {i = i} h)
