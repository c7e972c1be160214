-- The answer that entries make: a refusal of them is handed on, and the jet is made of them else. Assumes nothing.
use Rattle.std.proofs.Common.{◌≡◌, List, [], ◌∷◌, ℕ, ℤ, pos, ◌≤◌, min, Ok, Err, refl, sym, ap, ◌∙◌}
use Rattle.std.specs.Prelude.{Result}
use Rattle.refusals.specs.declared.Refusal.{Refusal}
use Rattle.whole.specs.Checked.{Whole}
use Rattle.calculus.specs.Array.{curve_array, surface_array}
use Rattle.calculus.specs.Order.{curve_entries, surface_entries}
use Rattle.calculus.proofs.LoopCut.{uncut}
use Rattle.exact_formulas.specs.Entries.{value_of, unless_refused, formed_curve, formed_surface}
use Rattle.exact.specs.Answer.{curve_answer, surface_answer}

module _ {A B : Type 0} (make : A → B) where
  made : Result A Refusal → Result B Refusal
  made (Ok x) = Ok (make x)
  made (Err c) = Err c

  through : (ws : List Whole) (a : A) → made (unless_refused ws (Ok a)) ≡ unless_refused ws (Ok (make a))
  unfolding unless_refused made
  through [] a = refl
  through (Ok z ∷ ws) a = through ws a
  through (Err c ∷ ws) a = refl

  module _ (ws : List Whole) (a : A) where
    pub answered : {x : A} → Ok x ≡ unless_refused ws (Ok a) → Ok (make x) ≡ unless_refused ws (Ok (make a))
    unfolding made
    answered e = ap made e ∙ through ws a

    pub refused : {c : Refusal} → Err c ≡ unless_refused ws (Ok a) → Err c ≡ unless_refused ws (Ok (make a))
    unfolding made
    refused e = ap made e ∙ through ws a

-- ---- the jet of the order n, which is not cut, from what is formed of it
module _ (f : ℕ → Whole) {n : ℕ} (h : n ≤ 20) {r : Result (List ℤ) Refusal} (e : r ≡ formed_curve f (min n 20)) where
  pub curve-answered : {l : List ℤ} → r ≡ Ok l → Ok (record { order = n; entries = l }) ≡ curve_answer f n
  curve-answered q =
      answered (λ (l : List ℤ). record { order = n; entries = l }) (curve_entries f n) (curve_array (pos 0) (λ m. value_of (f m)) n) (sym q ∙ e ∙ uncut (formed_curve f) h)

  pub curve-refused : {c : Refusal} → r ≡ Err c → Err c ≡ curve_answer f n
  curve-refused q =
      refused (λ (l : List ℤ). record { order = n; entries = l }) (curve_entries f n) (curve_array (pos 0) (λ m. value_of (f m)) n) (sym q ∙ e ∙ uncut (formed_curve f) h)

module _ (f : ℕ → ℕ → Whole) {n : ℕ} (h : n ≤ 20) {r : Result (List ℤ) Refusal} (e : r ≡ formed_surface f (min n 20)) where
  pub surface-answered : {l : List ℤ} → r ≡ Ok l → Ok (record { order = n; entries = l }) ≡ surface_answer f n
  surface-answered q =
      answered (λ (l : List ℤ). record { order = n; entries = l }) (surface_entries f n) (surface_array (pos 0) (λ i j. value_of (f i j)) n) (sym q ∙ e ∙ uncut (formed_surface f) h)

  pub surface-refused : {c : Refusal} → r ≡ Err c → Err c ≡ surface_answer f n
  surface-refused q =
      refused (λ (l : List ℤ). record { order = n; entries = l }) (surface_entries f n) (surface_array (pos 0) (λ i j. value_of (f i j)) n) (sym q ∙ e ∙ uncut (formed_surface f) h)
