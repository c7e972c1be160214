-- What a function over lists returns, by its test of what is given. Assumes nothing.
use Rattle.std.proofs.Common.{◌≡◌, refl, sym, ap, ap₂, ◌∙◌, Bool, true, false, cond, ltb, eqb, List, ℕ, ◌<◌, min, length, arith}
use native.Mathlib.Decide.{ℕ_discrete}
use borrow.Author.Tests.{eq-eqb, ne_eqb, lt-ltb, ltb-true, ltb-false}
use Rattle.std.specs.Prelude.{Result, Ok, Err, ⊤}
use Rattle.refusals.specs.declared.Refusal.{Refusal}
use Rattle.refusals.specs.Number.{number, number_of}
use Rattle.refusals.proofs.Numbers.{number-pos}
use Rattle.given.specs.Given.{first, order_given, count_given}
use Rattle.given.specs.Lists.{two_given_at, over_two_at, over_two, over_one, admitted, Input, Output}

abbrev pub pair : {T : Type 0} → ℕ → List T → ℕ × List T
pair c l = (c, l)

pub both : {T : Type 0} {c : ℕ} {l : List T} {r : ℕ × List T} → c ≡ r.0 → l ≡ r.1 → pair c l ≡ r
both p q = ap₂ pair p q

-- an answer's number is 0, and a refusal's is not
pub answered-0 : {t : Result ⊤ Refusal} {u : ⊤} → t ≡ Ok u → number_of t ≡ 0
answered-0 e = ap number_of e

pub refused-not_0 : {t : Result ⊤ Refusal} {r : Refusal} → t ≡ Err r → ¬ (number_of t ≡ 0)
refused-not_0 {r = r} e z =
    let q : number r ≡ 0 = sym (ap number_of e) ∙ z in
    absurd (omega (arith, number-pos r, q))

-- an order that is asked is tested before the list lent for it: above 20 it alone counts, as a sum that may be cut off high above it shows
above : (x : ℕ) → first 1 x ≡ 1
unfolding first
above x = go (ℕ_discrete x 0)
  where
    go : Dec (x ≡ 0) → first 1 x ≡ 1
    go (yes p) = rw (eq-eqb x 0 p)
    go (no p) =
        let q : ◌≡◌ {A = ℕ} (min 1 x) 1 = omega arith in
        rw (ne_eqb x 0 p) q

pub asked-sum : (o : ℕ → ℕ) (s : ℕ) {k : ℕ} → k ≡ min s 18446744073709551615 → first (order_given k) (o k) ≡ first (order_given s) (o s)
asked-sum o s {k} e = by (ltb 20 s) refl
  where
    high : (n : ℕ) → 20 < n → first (order_given n) (o n) ≡ 1
    high n h = rw (lt-ltb 20 n h) (above (o n))

    by : (b : Bool) → ltb 20 s ≡ b → first (order_given k) (o k) ≡ first (order_given s) (o s)
    by true q =
        let h : 20 < s = ltb-true 20 s q in
        high k (omega (arith, e, h)) ∙ sym (high s h)
    by false q =
        let h : k ≡ s = omega (arith, e, ltb-false 20 s q) in
        ap (λ (n : ℕ). first (order_given n) (o n)) h

-- the test is not 0, or it is
module _ {L : Type 0} {t g : ℕ} (out : L) (e : t ≡ g) where
  abbrev beside : ℕ → ℕ × L
  beside c = (c, out)

  pub refused : (r : ℕ × L) → ¬ (t ≡ 0) → beside t ≡ admitted g out r
  refused r h = ap beside e ∙ rw (ne_eqb g 0 (λ q. h (e ∙ q)))

  pub allowed : {s r : ℕ × L} → t ≡ 0 → s ≡ r → s ≡ admitted g out r
  allowed h p = p ∙ rw (eq-eqb g 0 (sym e ∙ h))

-- ---- operations on jets
module _ {T J K A : Type 0} (X : Input T J) (Y : Input T K) (Z : Output T A) (op : J → K → A) (m : ℕ) (a : List T) (n : ℕ) (b out : List T) where
  module _ {t : ℕ} (e : t ≡ first (X.test m (length a)) (first (Y.test n (length b)) (Z.test (min m n) (length out)))) where
    pub two-refused : ¬ (t ≡ 0) → pair t out ≡ over_two X Y Z op m a n b out
    unfolding over_two
    two-refused h = refused out e (Z.deliver (op (X.jet m a) (Y.jet n b)) out) h

    pub two-worked : t ≡ 0 → {x : J} {y : K} {r : A} {s : ℕ × List T} → x ≡ X.jet m a → y ≡ Y.jet n b → r ≡ op x y → s ≡ Z.deliver r out →
        s ≡ over_two X Y Z op m a n b out
    unfolding over_two
    two-worked h p q w v = allowed out e h (v ∙ ap (λ (r : A). Z.deliver r out) (w ∙ ap₂ op p q))

  module _ (k : ℕ) {t : ℕ} (e : t ≡ first (X.test m (length a)) (first (Y.test n (length b)) (first (order_given k) (Z.test k (length out))))) where
    pub two-refused-at : ¬ (t ≡ 0) → pair t out ≡ over_two_at X Y Z k op m a n b out
    unfolding over_two_at
    two-refused-at h = refused out e (Z.deliver (op (X.jet m a) (Y.jet n b)) out) h

    pub two-worked-at : t ≡ 0 → {x : J} {y : K} {r : A} {s : ℕ × List T} → x ≡ X.jet m a → y ≡ Y.jet n b → r ≡ op x y → s ≡ Z.deliver r out →
        s ≡ over_two_at X Y Z k op m a n b out
    unfolding over_two_at
    two-worked-at h p q w v = allowed out e h (v ∙ ap (λ (r : A). Z.deliver r out) (w ∙ ap₂ op p q))

-- at an order that is a sum
module _ {T J K A : Type 0} (X : Input T J) (Y : Input T K) (Z : Output T A) (s m : ℕ) (a : List T) (n : ℕ) (b out : List T) {k : ℕ} (e : k ≡ min s 18446744073709551615) where
  pub given-sum : two_given_at X Y Z k m a n b out ≡ two_given_at X Y Z s m a n b out
  given-sum = ap (λ (x : ℕ). first (X.test m (length a)) (first (Y.test n (length b)) x)) (asked-sum (λ k. Z.test k (length out)) s e)

  pub over-sum : (op : J → K → A) → over_two_at X Y Z k op m a n b out ≡ over_two_at X Y Z s op m a n b out
  unfolding over_two_at
  over-sum op = ap (λ (c : ℕ). admitted c out (Z.deliver (op (X.jet m a) (Y.jet n b)) out)) given-sum

module _ {T J A : Type 0} (X : Input T J) (Z : Output T A) (k : ℕ) (op : J → A) (n : ℕ) (a out : List T) where
  module _ {t : ℕ} (e : t ≡ first (X.test n (length a)) (Z.test k (length out))) where
    pub one-refused : ¬ (t ≡ 0) → pair t out ≡ over_one X Z k op n a out
    unfolding over_one
    one-refused h = refused out e (Z.deliver (op (X.jet n a)) out) h

    pub one-worked : t ≡ 0 → {x : J} {r : A} {s : ℕ × List T} → x ≡ X.jet n a → r ≡ op x → s ≡ Z.deliver r out → s ≡ over_one X Z k op n a out
    unfolding over_one
    one-worked h p w v = allowed out e h (v ∙ ap (λ (r : A). Z.deliver r out) (w ∙ ap op p))

-- ---- where the test is 0, each of its parts is
module _ (a b : ℕ) (e : first a b ≡ 0) where
  parts : (a ≡ 0) × (b ≡ 0)
  unfolding first
  parts = go (ℕ_discrete a 0) (ℕ_discrete b 0)
    where
      go : Dec (a ≡ 0) → Dec (b ≡ 0) → (a ≡ 0) × (b ≡ 0)
      go (yes p) d =
          let h : first a b ≡ b = rw (eq-eqb a 0 p) in
          (p, sym h ∙ e)
      go (no p) (yes q) =
          let h : first a b ≡ a = rw (ne_eqb a 0 p, eq-eqb b 0 q) in
          absurd (p (sym h ∙ e))
      go (no p) (no q) =
          let h : first a b ≡ min a b = rw (ne_eqb a 0 p, ne_eqb b 0 q) in
          let z : min a b ≡ 0 = sym h ∙ e in
          absurd (omega arith)

  pub one-fits : a ≡ 0
  one-fits = parts.0

  pub rest-fits : b ≡ 0
  rest-fits = parts.1

-- as many numbers as are due
pub count_fits : (due l : ℕ) → count_given due l ≡ 0 → l ≡ due
count_fits due l e = go (ℕ_discrete l due)
  where
    go : Dec (l ≡ due) → l ≡ due
    go (yes q) = q
    go (no q) =
        let h : ◌≡◌ {A = ℕ} 2 0 = rw (ne_eqb l due q) at e in
        absurd (omega arith)
