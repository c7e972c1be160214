-- The answer that the entries left in the order of work leave: a number is passed, and a refusal ends the work. Assumes nothing.
use Rattle.std.proofs.Common.{◌≡◌, refl, sym, ap, ap₂, ◌∙◌, List, [], ◌∷◌, ◌++◌, map, ℕ, zero, suc, ℤ}
use mathlib.Core.List.{map-append}
use Rattle.std.specs.Prelude.{Result, Ok, Err}
use Rattle.refusals.specs.declared.Refusal.{Refusal}
use Rattle.whole.specs.Checked.{Whole}
use Rattle.calculus.specs.Array.{listed}
use Rattle.calculus.specs.Order.{rows}
use Rattle.exact_formulas.specs.Entries.{unless_refused}

-- ---- the answer, by what is left
module _ {A : Type 0} (a : Result A Refusal) where
  pub none_left : {ws : List Whole} → ws ≡ [] → a ≡ unless_refused ws a
  unfolding unless_refused
  none_left e = sym (ap (λ (l : List Whole). unless_refused l a) e)

  pub pass : {w : Whole} {z : ℤ} {ws vs : List Whole} → w ≡ Ok z → ws ≡ w ∷ vs → unless_refused vs a ≡ unless_refused ws a
  unfolding unless_refused
  pass {w} {z} {ws} {vs} e h = sym (ap (λ (l : List Whole). unless_refused l a) h ∙ ap (λ (x : Whole). unless_refused (x ∷ vs) a) e)

  pub stop : {w : Whole} {c : Refusal} {ws vs : List Whole} → w ≡ Err c → ws ≡ w ∷ vs → Err c ≡ unless_refused ws a
  unfolding unless_refused
  stop {w} {c} {ws} {vs} e h = sym (ap (λ (l : List Whole). unless_refused l a) h ∙ ap (λ (x : Whole). unless_refused (x ∷ vs) a) e)

-- ---- lists of values
module _ {X Y : Type 0} (g : X → Y) where
  pub map-listed : (f : ℕ → X) (i n : ℕ) → map g (listed f i n) ≡ listed (λ k. g (f k)) i n
  unfolding listed
  map-listed f i zero = refl
  map-listed f i (suc n) = ap (λ (l : List Y). g (f i) ∷ l) (map-listed f (suc i) n)

  pub map_rows : (s : ℕ → ℕ → X) (i k : ℕ) → map g (rows s i k) ≡ rows (λ x y. g (s x y)) i k
  unfolding rows
  map_rows s i zero = refl
  map_rows s i (suc k) =
      map-append g (listed (s i) 0 (suc k)) (rows s (suc i) k) ∙ ap₂ ◌++◌ (map-listed (s i) 0 (suc k)) (map_rows s (suc i) k)
