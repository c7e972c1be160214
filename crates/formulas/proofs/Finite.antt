-- A loop that asks of each entry whether it is finite, and stops at the first that is not. Assumes nothing.
use Rattle.std.proofs.Common.{◌≡◌, Bool, true, false, cond, ◌&&◌, List, Float, ℕ, zero, suc, ◌+◌, ◌≤◌, ◌<◌, ltb, length, take, get_or, refl, sym, ap, ap₂, ◌∙◌, add-one, arith, le_refl, not-suc-le-zero, le-ltb}
use Rattle.std.specs.List.{list_all}
use Rattle.std.specs.Float.Ieee.Scale.{finite}
use Rattle.std.proofs.lemmas.List.Folds.{list_all_more}
use native.Mathlib.Decide.{ℕ_discrete}
use Rattle.calculus.specs.Graded.{triangle, graded}
use Rattle.calculus.proofs.Graded.{index-place}
use Rattle.formulas.specs.Numbers.{curve_numbers, surface_numbers, all_pass, all_finite, finite_surface}

and-false : (b : Bool) → (b && false) ≡ false
and-false true = refl
and-false false = refl

module _ {A : Type 0} (test : A → Bool) where
  module _ (a : ℕ → A) where
    pub none : all_pass test a 0 ≡ true
    unfolding all_pass
    none = refl

    pub more : (i : ℕ) → all_pass test a i ≡ true → test (a i) ≡ true → all_pass test a (i + 1) ≡ true
    unfolding all_pass
    more i e h = ap (all_pass test a) (add-one i) ∙ ap₂ ◌&&◌ e h

    pub stop : {i : ℕ} (n : ℕ) → i < n → test (a i) ≡ false → false ≡ all_pass test a n
    unfolding all_pass
    stop zero l e = absurd (not-suc-le-zero l)
    stop {i} (suc n) l e = go (ℕ_discrete i n) (λ h. stop n h e)
      where
        go : Dec (i ≡ n) → (i < n → false ≡ all_pass test a n) → false ≡ (all_pass test a n && test (a n))
        go (yes q) f = sym (ap (λ (x : Bool). all_pass test a n && x) (ap (λ (k : ℕ). test (a k)) (sym q) ∙ e) ∙ and-false (all_pass test a n))
        go (no q) f = ap (λ (x : Bool). x && test (a n)) (f (omega arith))

  -- entries that agree pass alike
  pub same : (a b : ℕ → A) (n : ℕ) → ((k : ℕ) → k < n → a k ≡ b k) → all_pass test a n ≡ all_pass test b n
  unfolding all_pass
  same a b zero h = refl
  same a b (suc n) h = ap₂ ◌&&◌ (same a b n (λ k l. h k (omega arith))) (ap test (h n (le_refl (suc n))))

-- ---- the test of a list, and of its first n
pub passes : {A : Type 0} (test : A → Bool) (d : A) (l : List A) (n : ℕ) → n ≤ length l → list_all test (take n l) ≡ all_pass test (λ k. get_or l k d) n
unfolding all_pass
passes test d l zero h = refl
passes test d l (suc n) h =
    ap (λ (k : ℕ). list_all test (take k l)) (sym (add-one n)) ∙ list_all_more test l n d (omega arith) ∙ ap (λ (x : Bool). x && test (get_or l n d)) (passes test d l n (omega arith))

-- a surface's entries up to the order n are the first of its array
pub surface-finite : (l : List Float) (n : ℕ) → all_finite (curve_numbers l) (triangle (suc n)) ≡ finite_surface (surface_numbers l) n
surface-finite l n = same finite (curve_numbers l) (graded (surface_numbers l)) (triangle (suc n)) (λ k h. ap (curve_numbers l) (sym (index-place k)))

-- the count of those entries, as `surface_count` gives it
pub counted : (n : ℕ) → n ≤ 20 → {k : ℕ} → k ≡ cond (ltb 20 n) 0 (triangle (suc n)) → k ≡ triangle (suc n)
counted n h e = e ∙ ap (λ (t : Bool). cond t 0 (triangle (suc n))) (le-ltb 20 n h)
