-- An array of a curve's entries, as a loop fills it and as it is read; and what a formula reads of the entries before it. Assumes nothing.
use Rattle.std.proofs.Common.{◌≡◌, Bool, true, false, cond, List, ◌++◌, Float, ℕ, suc, ◌+◌, ◌-◌, ◌≤◌, ◌<◌, ltb, length, get_or, drop, set, replicate, refl, sym, ap, ap₂, ◌∙◌, arith, length-append, length-drop, le_refl, lt-ltb, ltb-true, ltb-false}
use Rattle.std.specs.Float.{nan}
use Rattle.std.proofs.lemmas.List.{get_or_append_left, get_or-drop, length-replicate, get_or-replicate}
use Rattle.std.proofs.Math.Seq.{ext_get_or, get_or-append_right}
use Rattle.calculus.specs.Array.{filled, curve_array}
use Rattle.calculus.specs.Kind.{regular}
use Rattle.calculus.specs.Rising.{before, rising}
use Rattle.calculus.proofs.Related.{same_module}
use Rattle.calculus.proofs.LoopFilling.{CurveStored, curve-none, curve-more, curve-all, curve-earlier, filled-length, filled_at}
use Rattle.calculus.proofs.UpTo.{CurvesAgree}
use Rattle.calculus.proofs.Quotients.{rational_entry-alike}
use Rattle.calculus.specs.declared.Operation.{Operation}
use Rattle.calculus.specs.declared.Operation.TheVariants
use Rattle.ieee_vectors.specs.Vectors.{positive_zero}
use Rattle.formulas.specs.Real.{real}
use Rattle.formulas.specs.Numbers.{curve_numbers}
use Rattle.formulas.specs.Operations.{curve_by}
use Rattle.formulas.specs.Inner.{curve_formula}

-- ---- an array of which those entries are stored that a loop has passed
module _ (f : ℕ → Float) where
  abbrev pub CurveFilled : ℕ → List Float → Type 0
  CurveFilled = CurveStored 21 nan positive_zero (λ k v. f k ≡ v)

  pub numbers-none : CurveFilled 0 (replicate 21 positive_zero)
  numbers-none = curve-none 21 nan positive_zero (λ k v. f k ≡ v)

  pub numbers_more : {r : List Float} {m : ℕ} (v : Float) → CurveFilled m r → m < 21 → f m ≡ v → CurveFilled (m + 1) (set r m v)
  numbers_more = curve-more 21 nan positive_zero (λ k v. f k ≡ v)

  pub numbers-all : {r : List Float} (n : ℕ) {m : ℕ} → CurveFilled m r → m ≡ n → r ≡ filled 21 positive_zero f n
  numbers-all = curve-all 21 nan positive_zero (λ k v. f k ≡ v) f (λ k v e. sym e)

-- ---- an array of w zeros of which the first n are written over
module _ (w : ℕ) (f : ℕ → Float) where
  pub copied : {n : ℕ} (part : List Float) → n ≤ w → length part ≡ n → ((k : ℕ) → k < n → curve_numbers part k ≡ f k) →
      part ++ drop n (replicate w positive_zero) ≡ filled w positive_zero f n
  copied {n} part b l h =
      let long : length (part ++ drop n (replicate w positive_zero)) ≡ w = simp (length-append, length-drop, length-replicate) (omega arith) in
      ext_get_or nan (part ++ drop n (replicate w positive_zero)) (filled w positive_zero f n) (long ∙ sym (filled-length w nan positive_zero f n))
      (λ k q. at k (omega (arith, q, long)) (ltb k n) refl ∙ sym (filled_at w nan positive_zero f n k (omega (arith, q, long))))
    where
      at : (k : ℕ) → k < w → (t : Bool) → ltb k n ≡ t → get_or (part ++ drop n (replicate w positive_zero)) k nan ≡ cond t (f k) positive_zero
      at k q true e = get_or_append_left part _ nan k (omega (arith, ltb-true k n e)) ∙ h k (ltb-true k n e)
      at k q false e =
          let g : n ≤ k = ltb-false k n e in
          let m : n + (k - length part) ≡ k = omega (arith, g, l) in
          get_or-append_right part _ k nan (omega (arith, g, l)) ∙ get_or-drop n (replicate w positive_zero) (k - length part) nan
          ∙ ap (λ (x : ℕ). get_or (replicate w positive_zero) x nan) m ∙ get_or-replicate w k positive_zero nan q

-- ---- what is read of an array that a formula filled: the formula's entries
pub numbers-held : (f : ℕ → Float) (n : ℕ) → n ≤ 21 → {r : List Float} → r ≡ filled 21 positive_zero f n → (k : ℕ) → k < n → curve_numbers r k ≡ f k
numbers-held f n h e k l =
    ap (λ (x : List Float). curve_numbers x k) e ∙ filled_at 21 nan positive_zero f n k (omega arith) ∙ ap (λ (t : Bool). cond t (f k) positive_zero) (lt-ltb k n l)

pub numbers-agree : (f : ℕ → Float) (n : ℕ) → n ≤ 20 → {r : List Float} → r ≡ curve_array positive_zero f n → CurvesAgree n (curve_numbers r) f
numbers-agree f n h e k l = numbers-held f (suc n) (omega arith) e k (omega arith)

-- ---- a formula reads only entries that are formed: what the array holds serves as well
abbrev pub Eq : Float → Float → Type 0
Eq a b = a ≡ b

curve-reads : (f : Operation) (a b p q : ℕ → Float) (m : ℕ) → ((i : ℕ) → i ≤ m → p i ≡ q i) → curve_formula f a b p m ≡ curve_formula f a b q m
curve-reads TheVariants.Sum a b p q m h = refl
curve-reads TheVariants.Difference a b p q m h = refl
curve-reads TheVariants.Product a b p q m h = refl
curve-reads TheVariants.Quotient a b p q m h =
    rational_entry-alike Eq Eq (regular real) (regular real) (same_module (regular real)) real.over real.over (λ a s b t e g. ap₂ real.over e g) m
    a a b b (λ i l. refl) (λ i l. refl) m (le_refl m) p q h

-- the entries of the jet that an operation forms, of which the array holds those before m
abbrev pub curve_of : Operation → (ℕ → Float) → (ℕ → Float) → ℕ → Float
curve_of f a b = rising positive_zero (curve_formula f a b)

pub curve-formed : (f : Operation) (a b : ℕ → Float) {r : List Float} {m : ℕ} → CurveFilled (curve_of f a b) m r → m ≤ 20 →
    curve_of f a b m ≡ curve_formula f a b (curve_numbers r) m
curve-formed f a b {r} {m} s l =
    curve-reads f a b (before positive_zero (curve_formula f a b) m) (curve_numbers r) m
    (λ i h. curve-earlier 21 nan positive_zero (λ (x : Float). x) (curve_formula f a b) s i (omega arith))

pub curve-by : (f : Operation) (a b : ℕ → Float) → curve_of f a b ≡ curve_by f a b
curve-by TheVariants.Sum a b = refl
curve-by TheVariants.Difference a b = refl
curve-by TheVariants.Product a b = refl
curve-by TheVariants.Quotient a b = refl
