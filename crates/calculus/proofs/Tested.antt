-- The answer of a function on jets, by the tests that led to it, over every kind of jet. Assumes nothing.
use Rattle.std.proofs.Common.{◌≡◌, refl, sym, ap, ap₂, ◌∙◌, Bool, true, false, cond, not, ◌&&◌, ◌||◌, List, ℕ, ◌-◌, ◌≤◌, ◌<◌, min, arith, ltb, length, ltb-false, lt-ltb, le-ltb, eq-eqb}
use borrow.Author.Tests.{ne_eqb, not-true, not-false}
use Rattle.std.specs.Prelude.{Result, Ok, Err, ⊤}
use Rattle.refusals.specs.declared.Refusal.{Refusal}
use Rattle.refusals.specs.declared.Refusal.TheVariants.{OrderAbove20, Shape, InputNotFinite}
use Rattle.calculus.specs.JetKind.{JetKind, above20, answered, from_list, of_list, into_list, differentiated, on_one, on_two, on_two_at}

-- ---- orders that are not above 20
pub split-first : (p q : Bool) → (p || q) ≡ false → p ≡ false
split-first true q e = e
split-first false q e = refl

pub split-second : (p q : Bool) → (p || q) ≡ false → q ≡ false
split-second true q e = ap (λ (b : Bool). cond b q false) e
split-second false q e = e

pub near : {b : Bool} (m n : ℕ) → b ≡ above20 m n → b ≡ false → {k : ℕ} → k ≡ min m n → k ≤ 20
near m n h e q = omega (arith, ltb-false 20 m (split-first (ltb 20 m) (ltb 20 n) (sym h ∙ e)), q)

pub near-at : {b : Bool} (m n k : ℕ) → b ≡ (above20 m n || ltb 20 k) → b ≡ false → k ≤ 20
near-at m n k h e = ltb-false 20 k (split-second (above20 m n) (ltb 20 k) (sym h ∙ e))

-- ---- an array that has been computed, and is tested
pub returned-as : {X A : Type 0} (finite : List X → Bool) (made : List X → A) (refuse : A) {r s : List X} {b : Bool} → r ≡ s → finite s ≡ b →
    cond (finite r) (made r) refuse ≡ cond b (made s) refuse
returned-as {X} finite made refuse e h = ap₂ (λ (b : Bool) (x : List X). cond b (made x) refuse) (ap finite e ∙ h) e

-- ---- work on two jets: f is the test of their orders, and t the test whether they are finite
module _ {X E J Y F L C : Type 0} (K : JetKind X E J) (M : JetKind Y F L) where
  module _ (op : E → F → ℕ → Result C Refusal) (a : J) (b : L) {f : Bool} (g : f ≡ above20 (K.order a) (M.order b)) where
    pub two-above-20 : f ≡ true → Err OrderAbove20 ≡ on_two K M op a b
    two-above-20 e = rw (sym g ∙ e)

    module _ (e : f ≡ false) {n : ℕ} (m : n ≡ min (K.order a) (M.order b)) {t : Bool} (h : t ≡ (K.finite (K.numbers a) n && M.finite (M.numbers b) n)) where
      pub two-infinite : not t ≡ true → Err InputNotFinite ≡ on_two K M op a b
      two-infinite i = rw (sym g ∙ e, ← m, sym h ∙ not-true t i)

      pub two-worked : not t ≡ false → op (K.numbers a) (M.numbers b) n ≡ on_two K M op a b
      two-worked i = rw (sym g ∙ e, ← m, sym h ∙ not-false t i)

  -- at an order that is asked
  module _ (op : E → F → Result C Refusal) (a : J) (b : L) (m : ℕ) {f : Bool} (g : f ≡ (above20 (K.order a) (M.order b) || ltb 20 m)) where
    pub at-above-20 : f ≡ true → Err OrderAbove20 ≡ on_two_at K M op a b m
    at-above-20 e = rw (sym g ∙ e)

    module _ (e : f ≡ false) {n : ℕ} (q : n ≡ min (K.order a) (M.order b)) where
      pub at-beyond : n < m → Err Shape ≡ on_two_at K M op a b m
      at-beyond l = rw (sym g ∙ e, ← q, lt-ltb n m l)

      module _ (l : m ≤ n) {t : Bool} (h : t ≡ (K.finite (K.numbers a) m && M.finite (M.numbers b) m)) where
        pub at-infinite : not t ≡ true → Err InputNotFinite ≡ on_two_at K M op a b m
        at-infinite i = rw (sym g ∙ e, ← q, le-ltb n m l, sym h ∙ not-true t i)

        pub at-worked : not t ≡ false → op (K.numbers a) (M.numbers b) ≡ on_two_at K M op a b m
        at-worked i = rw (sym g ∙ e, ← q, le-ltb n m l, sym h ∙ not-false t i)

module _ {X E J : Type 0} (K : JetKind X E J) where
  -- ---- work on one jet
  module _ {B : Type 0} (op : E → ℕ → Result B Refusal) (a : J) where
    pub one-above-20 : 20 < K.order a → Err OrderAbove20 ≡ on_one K op a
    one-above-20 h = rw (lt-ltb 20 (K.order a) h)

    module _ (l : K.order a ≤ 20) {t : Bool} (h : t ≡ K.finite (K.numbers a) (K.order a)) where
      pub one-infinite : not t ≡ true → Err InputNotFinite ≡ on_one K op a
      one-infinite i = rw (le-ltb 20 (K.order a) l, sym h ∙ not-true t i)

      pub one-worked : not t ≡ false → op (K.numbers a) (K.order a) ≡ on_one K op a
      one-worked i = rw (le-ltb 20 (K.order a) l, sym h ∙ not-false t i)

  -- ---- a derivative
  module _ (d : E → E) (a : J) where
    pub less-above-20 : 20 < K.order a → Err OrderAbove20 ≡ differentiated K d a
    less-above-20 h = rw (lt-ltb 20 (K.order a) h)

    module _ (l : K.order a ≤ 20) where
      pub less_none : K.order a ≡ 0 → Err Shape ≡ differentiated K d a
      less_none e = rw (le-ltb 20 (K.order a) l, eq-eqb (K.order a) 0 e)

      module _ {t : Bool} (h : t ≡ K.finite (K.numbers a) (K.order a)) (e : ¬ (K.order a ≡ 0)) where
        pub less-infinite : not t ≡ true → Err InputNotFinite ≡ differentiated K d a
        less-infinite i = rw (le-ltb 20 (K.order a) l, ne_eqb (K.order a) 0 e, sym h ∙ not-true t i)

        pub less-worked : not t ≡ false → answered K (K.order a - 1) (d (K.numbers a)) ≡ differentiated K d a
        less-worked i = rw (le-ltb 20 (K.order a) l, ne_eqb (K.order a) 0 e, sym h ∙ not-false t i)

  -- ---- from a list: k is the count that is due
  module _ (n : ℕ) (l : List X) where
    pub list-above-20 : 20 < n → Err OrderAbove20 ≡ from_list K n l
    list-above-20 h = rw (lt-ltb 20 n h)

    pub plain-above-20 : 20 < n → Err OrderAbove20 ≡ of_list K n l
    plain-above-20 h = rw (lt-ltb 20 n h)

    module _ (h : n ≤ 20) {k : ℕ} (c : k ≡ K.count n) where
      pub list_length : ¬ (length l ≡ k) → Err Shape ≡ from_list K n l
      list_length e = rw (le-ltb 20 n h, ne_eqb (length l) (K.count n) (λ q. e (q ∙ sym c)))

      pub plain-length : ¬ (length l ≡ k) → Err Shape ≡ of_list K n l
      plain-length e = rw (le-ltb 20 n h, ne_eqb (length l) (K.count n) (λ q. e (q ∙ sym c)))

      module _ (e : length l ≡ k) where
        pub plain-is : answered K n (K.in_list n l) ≡ of_list K n l
        plain-is = rw (le-ltb 20 n h, eq-eqb (length l) (K.count n) (e ∙ c))

        module _ {t : Bool} (f : t ≡ K.finite_list l) where
          pub list-infinite : not t ≡ true → Err InputNotFinite ≡ from_list K n l
          list-infinite i = rw (le-ltb 20 n h, eq-eqb (length l) (K.count n) (e ∙ c), sym f ∙ not-true t i)

          pub list-is : not t ≡ false → answered K n (K.in_list n l) ≡ from_list K n l
          list-is i = rw (le-ltb 20 n h, eq-eqb (length l) (K.count n) (e ∙ c), sym f ∙ not-false t i)

  -- ---- into a list
  module _ (a : J) (out : List X) where
    pub into-above-20 : 20 < K.order a → ◌≡◌ {A = Result ⊤ Refusal × List X} (Err OrderAbove20, out) (into_list K a out)
    into-above-20 h = rw (lt-ltb 20 (K.order a) h)

    module _ (h : K.order a ≤ 20) {k : ℕ} (c : k ≡ K.count (K.order a)) where
      pub into-length : ¬ (length out ≡ k) → ◌≡◌ {A = Result ⊤ Refusal × List X} (Err Shape, out) (into_list K a out)
      into-length e = rw (le-ltb 20 (K.order a) h, ne_eqb (length out) (K.count (K.order a)) (λ q. e (q ∙ sym c)))

      module _ (e : length out ≡ k) {t : Bool} (f : t ≡ K.finite (K.numbers a) (K.order a)) where
        pub into-infinite : not t ≡ true → ◌≡◌ {A = Result ⊤ Refusal × List X} (Err InputNotFinite, out) (into_list K a out)
        into-infinite i = rw (le-ltb 20 (K.order a) h, eq-eqb (length out) (K.count (K.order a)) (e ∙ c), sym f ∙ not-true t i)

        pub into-worked : not t ≡ false → ◌≡◌ {A = Result ⊤ Refusal × List X} (Ok tt, K.list (K.numbers a) (K.order a)) (into_list K a out)
        into-worked i = rw (le-ltb 20 (K.order a) h, eq-eqb (length out) (K.count (K.order a)) (e ∙ c), sym f ∙ not-false t i)
