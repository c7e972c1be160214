-- What the functions on jets answer is fit to be written (Delivered.antt): an answered jet has the order that is due, at most 20, and finite
-- entries. Over every kind of jet whose entries read as they are made (`Made`), as those of curves and of surfaces do. Assumes nothing.
use mathlib.Core.Path.{◌≡◌, refl, sym, ap, ap₂, ◌∙◌, subst}
use mathlib.Core.Bool.{Bool, true, cond, ◌&&◌, ◌||◌}
use mathlib.Core.List.{List}
use Prim.Native.Nat.{ℕ, suc, ◌+◌, ◌-◌, ◌≤◌, ◌<◌, min}
use native.Mathlib.Nat.{suc-ne-zero}
use native.Mathlib.Omega.{arith}
use lib.Dec.{ltb, eqb}
use lib.ListN.{length}
use borrow.Author.Tests.{lt-ltb, ltb-false, eqb-false}
use Rattle.calculus.specs.Graded.{triangle, index, place, graded}
use Rattle.calculus.specs.Array.{listed, curve_array, surface_array}
use Rattle.calculus.specs.Curve.{derivative}
use Rattle.calculus.specs.Surface.{derivative_by}
use Rattle.calculus.specs.declared.By.{By}
use Rattle.calculus.specs.declared.By.TheVariants as way
use Rattle.calculus.specs.Order.{curve_entries, surface_entries}
use Rattle.std.specs.Prelude.{Result, Ok, Err, ⊤}
use Rattle.refusals.specs.declared.Refusal.{Refusal}
use Rattle.refusals.specs.declared.Refusal.TheVariants.{OrderAbove20, Shape, InputNotFinite, AnswerNotFinite}
use Rattle.calculus.specs.JetKind.{Entries, JetKind, above20, finite_up_to, answered, returned, differentiated, by_formula, on_one, on_two, on_two_at}
use Rattle.calculus.proofs.Graded.{index_below, index-231, place-first, place-second, place-order}
use Rattle.calculus.proofs.Same.{curve-entries-same, surface-entries-same}
use Rattle.calculus.proofs.Tested.{near, near-at}
use Rattle.given.specs.Lists.{input, output, deliver, over_two, over_two_at, over_one}
use Rattle.given.proofs.Admission.{pair, allowed}
use Rattle.given.proofs.Delivered.{by-test, entries, whole, Fit, delivered, Read, two-whole, at-whole, one-whole}

-- ---- what the functions on jets answer
-- a jet that is made has the entries that it is made of, up to its order
pub record Made {X E J : Type 0} (K : JetKind X E J) : Type 0 where
  pub read : Read K
  pub finite : (n : ℕ) → n ≤ 20 → (x : E) → K.finite (K.numbers (K.made n x)) n ≡ K.finite x n
  pub list : (n : ℕ) → n ≤ 20 → (x : E) → K.list (K.numbers (K.made n x)) n ≡ K.list x n

module _ {X E J : Type 0} (K : JetKind X E J) (s : Made K) where
  module _ (n : ℕ) (h : n ≤ 20) (x : E) where
    pub fit-answered : K.finite x n ≡ true → Fit K n (answered K n x)
    fit-answered p = record { order = s.read.order n x; low = h; finite = s.finite n h x ∙ p }

    pub fit-returned : Fit K n (returned K n x)
    fit-returned = by-test (Fit K n) (K.finite x n) (answered K n x) (Err AnswerNotFinite) fit-answered (λ _. tt)

    -- its entries are those of the list
    pub entries-answered : entries K (K.made n x) ≡ K.list x n
    entries-answered = ap (K.list (K.numbers (K.made n x))) (s.read.order n x) ∙ s.list n h x

    pub answered-delivered : K.finite x n ≡ true → (out : List X) → length out ≡ K.count n → deliver K (answered K n x) out ≡ pair 0 (K.list x n)
    answered-delivered p out e = delivered K n (answered K n x) out (fit-answered p) (λ _ _. e) ∙ ap (pair 0) entries-answered

  -- a derivative, of one order less
  pub fit-less : (d : E → E) → ((x : E) (n : ℕ) → ¬ (n ≡ 0) → K.finite x n ≡ true → K.finite (d x) (n - 1) ≡ true) → (a : J) →
      Fit K (K.order a - 1) (differentiated K d a)
  fit-less d f a =
      let n = K.order a in
      let r = answered K (n - 1) (d (K.numbers a)) in
      let finite = finite_up_to K a n in
      by-test (Fit K (n - 1)) (ltb 20 n) (Err OrderAbove20) (cond (eqb n 0) (Err Shape) (cond finite r (Err InputNotFinite))) (λ _. tt)
      (λ e. by-test (Fit K (n - 1)) (eqb n 0) (Err Shape) (cond finite r (Err InputNotFinite)) (λ _. tt)
      (λ z. by-test (Fit K (n - 1)) finite r (Err InputNotFinite)
      (λ g. fit-answered (n - 1) (omega (arith, ltb-false 20 n e)) (d (K.numbers a)) (f (K.numbers a) n (eqb-false n 0 z) g)) (λ _. tt)))

module _ {X E J Z G H : Type 0} (K : JetKind X E J) (R : JetKind Z G H) (s : Made R) where
  -- work on one jet
  pub fit-one : (op : E → ℕ → Result H Refusal) → ((x : E) (n : ℕ) → n ≤ 20 → Fit R n (op x n)) → (a : J) → Fit R (K.order a) (on_one K op a)
  fit-one op f a =
      let n = K.order a in
      let r = op (K.numbers a) n in
      by-test (Fit R n) (ltb 20 n) (Err OrderAbove20) (cond (finite_up_to K a n) r (Err InputNotFinite)) (λ _. tt)
      (λ e. by-test (Fit R n) (finite_up_to K a n) r (Err InputNotFinite) (λ _. f (K.numbers a) n (ltb-false 20 n e)) (λ _. tt))

  -- on two, at the smaller order, and at one that is asked
  module _ {Y F L : Type 0} (M : JetKind Y F L) where
    pub fit-two : (op : E → F → ℕ → Result H Refusal) → ((x : E) (y : F) (n : ℕ) → n ≤ 20 → Fit R n (op x y n)) → (a : J) (b : L) →
        Fit R (min (K.order a) (M.order b)) (on_two K M op a b)
    fit-two op f a b =
        let n = min (K.order a) (M.order b) in
        let r = op (K.numbers a) (M.numbers b) n in
        let finite = finite_up_to K a n && M.finite (M.numbers b) n in
        by-test (Fit R n) (above20 (K.order a) (M.order b)) (Err OrderAbove20) (cond finite r (Err InputNotFinite)) (λ _. tt)
        (λ e. by-test (Fit R n) finite r (Err InputNotFinite) (λ _. f (K.numbers a) (M.numbers b) n (near (K.order a) (M.order b) refl e refl)) (λ _. tt))

    pub fit_at : (n : ℕ) (op : E → F → Result H Refusal) → ((x : E) (y : F) → n ≤ 20 → Fit R n (op x y)) → (a : J) (b : L) → Fit R n (on_two_at K M op a b n)
    fit_at n op f a b =
        let r = op (K.numbers a) (M.numbers b) in
        let finite = finite_up_to K a n && M.finite (M.numbers b) n in
        let unfit = ltb (min (K.order a) (M.order b)) n in
        let high = above20 (K.order a) (M.order b) || ltb 20 n in
        by-test (Fit R n) high (Err OrderAbove20) (cond unfit (Err Shape) (cond finite r (Err InputNotFinite))) (λ _. tt)
        (λ e. by-test (Fit R n) unfit (Err Shape) (cond finite r (Err InputNotFinite)) (λ _. tt)
        (λ _. by-test (Fit R n) finite r (Err InputNotFinite) (λ _. f (K.numbers a) (M.numbers b) (near-at (K.order a) (M.order b) n refl e)) (λ _. tt)))

-- ---- kinds of jet that lay their entries out as curves, and as surfaces
-- a list of entries reads as they are; entries that agree are finite alike; entries that stand among finite ones are finite
pub record Kept {X Y : Type 0} (N : Entries X Y) : Type 0 where
  pub at : (f : ℕ → Y) (w k : ℕ) → k < w → N.at (N.flat (listed f 0 w)) k ≡ f k
  pub finite : (f g : ℕ → Y) (n : ℕ) → ((k : ℕ) → k < n → f k ≡ g k) → N.finite f n ≡ N.finite g n
  pub among : (f g : ℕ → Y) (n m : ℕ) → ((k : ℕ) → k < m → (p : ℕ) × ((p < n) × (f p ≡ g k))) → N.finite f n ≡ true → N.finite g m ≡ true

module _ {X Y J : Type 0} (N : Entries X Y) (k : Kept N) where
  module _ (K : JetKind X (ℕ → Y) J) (r : Read K) (array : (n : ℕ) (x : ℕ → Y) → K.numbers (K.made n x) ≡ N.at (N.flat (curve_array N.zero x n)))
      (tests : (n : ℕ) (x : ℕ → Y) → K.finite x n ≡ N.finite x (suc n)) (lists : (n : ℕ) (x : ℕ → Y) → K.list x n ≡ N.flat (curve_entries x n)) where
    curve-reads : (n : ℕ) → n ≤ 20 → (x : ℕ → Y) (m : ℕ) → m ≤ n → K.numbers (K.made n x) m ≡ x m
    curve-reads n h x m l =
        ap (λ (f : ℕ → Y). f m) (array n x) ∙ k.at (λ i. cond (ltb i (suc n)) (x i) N.zero) 21 m (omega arith)
        ∙ ap (λ (t : Bool). cond t (x m) N.zero) (lt-ltb m (suc n) (omega arith))

    pub made-curves : Made K
    made-curves = record {
      read = r;
      finite = λ n h x. tests n (K.numbers (K.made n x)) ∙ k.finite (K.numbers (K.made n x)) x (suc n) (λ m l. curve-reads n h x m (omega arith)) ∙ sym (tests n x);
      list = λ n h x. lists n (K.numbers (K.made n x)) ∙ ap N.flat (curve-entries-same n (λ m l. curve-reads n h x m l)) ∙ sym (lists n x);
    }

    pub less-curves : (a : J) → Fit K (K.order a - 1) (differentiated K derivative a)
    less-curves =
        fit-less K made-curves derivative
        (λ x n z p. tests (n - 1) (derivative x)
        ∙ k.among x (derivative x) (suc n) (suc (n - 1)) (λ i l. (suc i, (omega (arith, z, l), refl))) (sym (tests n x) ∙ p))

  module _ (K : JetKind X (ℕ → ℕ → Y) J) (r : Read K)
      (array : (n : ℕ) (x : ℕ → ℕ → Y) → K.numbers (K.made n x) ≡ (λ i j. N.at (N.flat (surface_array N.zero x n)) (index i j)))
      (tests : (n : ℕ) (x : ℕ → ℕ → Y) → K.finite x n ≡ N.finite (graded x) (triangle (suc n))) (lists : (n : ℕ) (x : ℕ → ℕ → Y) → K.list x n ≡ N.flat (surface_entries x n)) where
    surface-reads : (n : ℕ) → n ≤ 20 → (x : ℕ → ℕ → Y) (i j : ℕ) → i + j ≤ n → K.numbers (K.made n x) i j ≡ x i j
    surface-reads n h x i j l =
        ap (λ (f : ℕ → ℕ → Y). f i j) (array n x)
        ∙ k.at (λ p. cond (ltb p (triangle (suc n))) (graded x p) N.zero) 231 (index i j) (index-231 i j (omega arith))
        ∙ ap (λ (t : Bool). cond t (graded x (index i j)) N.zero) (lt-ltb (index i j) (triangle (suc n)) (index_below n i j l))
        ∙ ap₂ x (place-first i j) (place-second i j)

    pub made-surfaces : Made K
    made-surfaces = record {
      read = r;
      finite = λ n h x. tests n (K.numbers (K.made n x))
          ∙ k.finite (graded (K.numbers (K.made n x))) (graded x) (triangle (suc n)) (λ i l. surface-reads n h x (place i).0 (place i).1 (place-order n i l)) ∙ sym (tests n x);
      list = λ n h x. lists n (K.numbers (K.made n x)) ∙ ap N.flat (surface-entries-same n (λ i j l. surface-reads n h x i j l)) ∙ sym (lists n x);
    }

    pub less-surfaces : (by : By) (a : J) → Fit K (K.order a - 1) (differentiated K (derivative_by by) a)
    less-surfaces by =
        fit-less K made-surfaces (derivative_by by)
        (λ x n z p. tests (n - 1) (derivative_by by x)
        ∙ k.among (graded x) (graded (derivative_by by x)) (triangle (suc n)) (triangle (suc (n - 1))) (stands by x n z) (sym (tests n x) ∙ p))
      where
        -- the derivative's entry i among the surface's
        stands : (by : By) (x : ℕ → ℕ → Y) (n : ℕ) → ¬ (n ≡ 0) → (i : ℕ) → i < triangle (suc (n - 1)) →
            (p : ℕ) × ((p < triangle (suc n)) × (graded x p ≡ graded (derivative_by by x) i))
        stands way.U x n z i l =
            let h = place-order (n - 1) i l in
            (index (suc (place i).0) (place i).1, (index_below n (suc (place i).0) (place i).1 (omega (arith, z, h)), ap₂ x (place-first (suc (place i).0) (place i).1) (place-second (suc (place i).0) (place i).1)))
        stands way.V x n z i l =
            let h = place-order (n - 1) i l in
            (index (place i).0 (suc (place i).1), (index_below n (place i).0 (suc (place i).1) (omega (arith, z, h)), ap₂ x (place-first (place i).0 (suc (place i).1)) (place-second (place i).0 (suc (place i).1))))

-- ---- functions over lists, of every kind of jet
-- a formula on two jets, at the smaller order; and one at an order k that is asked
module _ {X E J F L G H : Type 0} (K : JetKind X E J) (M : JetKind X F L) (R : JetKind X G H) (s : Made R) (m : ℕ) (a : List X) (n : ℕ) (b out : List X) where
  pub formula-whole : Read K → Read M → (f : E → F → G) →
      over_two (input K) (input M) (output R) (by_formula K M R f) m a n b out ≡ over_two (input K) (input M) (whole R) (by_formula K M R f) m a n b out
  formula-whole rk rm f =
      two-whole K M R rk rm (by_formula K M R f) (fit-two K R s M (λ x y k. returned R k (f x y)) (λ x y k h. fit-returned R s k h (f x y))) m a n b out

  module _ (k : ℕ) (f : E → F → G) where
    abbrev asked : J → L → Result H Refusal
    asked x y = on_two_at K M (λ p q. returned R k (f p q)) x y k

    pub asked-whole : over_two_at (input K) (input M) (output R) k asked m a n b out ≡ over_two_at (input K) (input M) (whole R) k asked m a n b out
    asked-whole = at-whole K M R k asked (fit_at K R s M k (λ p q. returned R k (f p q)) (λ p q h. fit-returned R s k h (f p q))) m a n b out

-- a derivative, of one order less
pub less-whole : {X E J : Type 0} (K : JetKind X E J) → Read K → (d : E → E) → ((a : J) → Fit K (K.order a - 1) (differentiated K d a)) → (n : ℕ) (a out : List X) →
    over_one (input K) (output K) (n - 1) (differentiated K d) n a out ≡ over_one (input K) (whole K) (n - 1) (differentiated K d) n a out
less-whole K r d f n a out =
    one-whole K K r (n - 1) (differentiated K d) n (λ x e. subst (λ (k : ℕ). Fit K (k - 1) (differentiated K d x)) e (f x)) a out
