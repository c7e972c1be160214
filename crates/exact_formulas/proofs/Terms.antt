-- Terms that are taken in one after the other, each of which may be refused: the first refusal stays. Assumes nothing.
use Rattle.std.proofs.Common.{◌≡◌, refl, sym, ap, ap₂, ◌∙◌, arith, Bool, cond, ltb, ℕ, zero, suc, ◌+◌, ◌-◌, ◌<◌, ◌≤◌, ℤ, Result, Ok, Err, IsErr, IsErrAnd, FitsSigned, w64}
use Rattle.std.proofs.Math.Facts.{to_z-of_z}
use mathlib.Core.Path.{fun_ext}
use Rattle.std.proofs.Math.Nat.{add-zero, zero-add}
use Rattle.std.proofs.Math.Numerals.{add-one, one-add}
use Rattle.std.proofs.lemmas.Bool.{le-ltb}
use Rattle.std.proofs.lemmas.Result.{err_from_is_err_and}
use Rattle.refusals.specs.declared.Refusal.{Refusal}
use Rattle.whole.specs.Checked.{Whole, both}
use Rattle.whole.proofs.Range.{tz}
use Rattle.calculus.specs.Choose.{choose}
use Rattle.calculus.specs.InTurn.{in_turn, in_rows}

module _ (f : ℤ → ℤ → Whole) where
  refused-turn : (t : ℕ → Whole) (c : Refusal) (n : ℕ) → in_turn (both f) (Err c) t n ≡ Err c
  unfolding in_turn
  refused-turn t c zero = refl
  refused-turn t c (suc n) = ap (λ (w : Whole). both f w (t n)) (refused-turn t c n)

  -- terms in one row
  module _ (x : Whole) (t : ℕ → Whole) {c : Refusal} (i : ℕ) where
    later : (d n : ℕ) → n ≡ i + d → in_turn (both f) x t i ≡ Err c → in_turn (both f) x t n ≡ Err c
    unfolding in_turn
    later zero n e h = ap (in_turn (both f) x t) (e ∙ add-zero i) ∙ h
    later (suc d) zero e h = absurd (omega (arith, e))
    later (suc d) (suc n) e h = ap (λ (w : Whole). both f w (t n)) (later d n (omega (arith, e)) h)

  module _ (x : Whole) (t : ℕ → Whole) {s : ℤ} {i : ℕ} (inv : Ok s ≡ in_turn (both f) x t i) where
    stops : {c : Refusal} {n : ℕ} → i < n → both f (Ok s) (t i) ≡ Err c → Err c ≡ in_turn (both f) x t n
    unfolding in_turn
    stops {n = n} l h = sym (later x t (suc i) (n - suc i) n (omega arith) (ap (λ (w : Whole). both f w (t i)) (sym inv) ∙ h))

    pub term-stops : {c : Refusal} {n : ℕ} → i < n → Err c ≡ t i → Err c ≡ in_turn (both f) x t n
    term-stops l h = stops l (sym (ap (both f (Ok s)) h))

    pub sum-stops : {c : Refusal} {z : ℤ} {n : ℕ} → i < n → FitsSigned w64 z → Ok z ≡ t i → Err c ≡ f s (tz z) → Err c ≡ in_turn (both f) x t n
    sum-stops l fz h k = stops l (sym (k ∙ ap (f s) (to_z-of_z fz) ∙ ap (both f (Ok s)) h))

    pub goes-on : {z y : ℤ} → FitsSigned w64 z → FitsSigned w64 y → Ok z ≡ t i → Ok y ≡ f s (tz z) → Ok (tz y) ≡ in_turn (both f) x t (i + 1)
    unfolding in_turn
    goes-on fz fy h k = rw add-one (ap Ok (to_z-of_z fy) ∙ k ∙ ap (f s) (to_z-of_z fz) ∙ ap₂ (both f) inv h)

  -- rows of terms
  module _ (x : Whole) (t : ℕ → ℕ → Whole) {c : Refusal} (n i : ℕ) where
    later-rows : (d m : ℕ) → m ≡ i + d → in_rows (both f) x t i n ≡ Err c → in_rows (both f) x t m n ≡ Err c
    unfolding in_rows
    later-rows zero m e h = ap (λ (k : ℕ). in_rows (both f) x t k n) (e ∙ add-zero i) ∙ h
    later-rows (suc d) zero e h = absurd (omega (arith, e))
    later-rows (suc d) (suc m) e h = ap (λ (w : Whole). in_turn (both f) w (t m) n) (later-rows d m (omega (arith, e)) h) ∙ refused-turn (t m) c n

  module _ (x : Whole) (t : ℕ → ℕ → Whole) (n i : ℕ) {s : ℤ} (inv : Ok s ≡ in_rows (both f) x t i n) where
    pub row-stops : {c : Refusal} {m : ℕ} → i < m → Err c ≡ in_turn (both f) (Ok s) (t i) n → Err c ≡ in_rows (both f) x t m n
    unfolding in_rows
    row-stops {m = m} l h =
        sym (later-rows x t n (suc i) (m - suc i) m (omega arith) (ap (λ (w : Whole). in_turn (both f) w (t i) n) (sym inv) ∙ sym h))

    pub row-goes-on : {y : ℤ} → FitsSigned w64 y → Ok y ≡ in_turn (both f) (Ok s) (t i) n → Ok (tz y) ≡ in_rows (both f) x t (i + 1) n
    unfolding in_rows
    row-goes-on fy h = rw add-one (ap Ok (to_z-of_z fy) ∙ h ∙ ap (λ (w : Whole). in_turn (both f) w (t i) n) inv)

  pub refused-rows : {x : Whole} (t : ℕ → ℕ → Whole) (c : Refusal) (m n : ℕ) → Err c ≡ x → Err c ≡ in_rows (both f) x t m n
  unfolding in_rows
  refused-rows t c zero n h = h
  refused-rows t c (suc m) n h = sym (refused-turn (t m) c n) ∙ ap (λ (w : Whole). in_turn (both f) w (t m) n) (refused-rows t c m n h)

-- nothing is taken in yet
pub begins : {x : Whole} (op : Whole → Whole → Whole) (t : ℕ → Whole) → x ≡ in_turn op x t 0
unfolding in_turn
begins op t = refl

pub begins-rows : {x : Whole} (op : Whole → Whole → Whole) (t : ℕ → ℕ → Whole) (n : ℕ) → x ≡ in_rows op x t 0 n
unfolding in_rows
begins-rows op t n = refl

-- what a `?` hands on
pub handed : {A : Type 0} {r : Result A Refusal} {e : Refusal} → IsErr r × IsErrAnd r (λ y. y ≡ e) → r ≡ Err e
handed {r = r} h = let p = err_from_is_err_and r h.1 in p.1 ∙ ap Err p.2

-- a row of terms from its first on, and from its second on
module _ {A B : Type 0} (op : A → B → A) (x : A) (f : ℕ → B) (n : ℕ) where
  pub from_zero : in_turn op x (λ j. f (0 + j)) (suc n - 0) ≡ in_turn op x f (suc n)
  from_zero =
      let e : suc n - 0 ≡ suc n = omega arith in
      ap₂ (in_turn op x) (fun_ext (λ j. ap f (zero-add j))) e

  pub from_one : in_turn op x (λ j. f (1 + j)) (suc n - 1) ≡ in_turn op x (λ j. f (suc j)) n
  from_one =
      let e : suc n - 1 ≡ n = omega arith in
      ap₂ (in_turn op x) (fun_ext (λ j. ap f (one-add j))) e

-- a coefficient of an order that the table has
pub chosen : {r : ℕ} (m i : ℕ) → m ≤ 20 → r ≡ cond (ltb 20 m) 0 (choose m i) → r ≡ choose m i
chosen m i h e = e ∙ ap (λ (t : Bool). cond t 0 (choose m i)) (le-ltb 20 m h)
