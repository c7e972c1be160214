-- An answered jet is written whole, over every kind of jet and every operation: where a function over lists answers 0, the list lent has all
-- entries of the jet that the operation answered, and nothing else; where it refuses, that list is as it was (`..-left`). And the tests in the
-- function that writes a jet refuse none that is fit: the number is that of the tests of what is given, or the operation's own (`..-whole`). That
-- what the operations answer is fit stands in Answered.antt. Assumes nothing.
use mathlib.Core.Path.{◌≡◌, refl, sym, ap, ap₂, ◌∙◌, subst}
use mathlib.Core.Bool.{Bool, true, false, cond, not}
use mathlib.Core.List.{List}
use Prim.Native.Nat.{ℕ, ◌≤◌, ◌<◌, min}
use native.Mathlib.Nat.{suc-ne-zero}
use native.Mathlib.Decide.{ℕ_discrete}
use native.Mathlib.Omega.{arith}
use lib.Dec.{ltb, eqb}
use lib.ListN.{length}
use borrow.Author.Tests.{ltb-false, eqb-true, eqb-false, ne_eqb}
use Rattle.std.specs.Prelude.{Result, Ok, Err, ⊤}
use Rattle.refusals.specs.declared.Refusal.{Refusal}
use Rattle.refusals.specs.declared.Refusal.TheVariants.{OrderAbove20, Shape, InputNotFinite}
use Rattle.refusals.specs.Number.{number}
use Rattle.refusals.proofs.Numbers.{number-pos}
use Rattle.calculus.specs.JetKind.{JetKind, jet_of, jet_of_list, into_list}
use Rattle.calculus.proofs.Tested.{into-worked, plain-is}
use Rattle.given.specs.Given.{first, order_given, count_given, list_given}
use Rattle.given.specs.Lists.{admitted, numbered, Input, Output, input, output, deliver, over_two, over_two_at, over_one}
use Rattle.given.proofs.Admission.{one-fits, rest-fits, count_fits}

-- a property of what a test picks
pub by-test : {A : Type 0} (P : A → Type 0) (b : Bool) (x y : A) → (b ≡ true → P x) → (b ≡ false → P y) → P (cond b x y)
by-test P true x y f g = f refl
by-test P false x y f g = g refl

-- a list that is fit
pub list-fits : (count : ℕ → ℕ) (n l : ℕ) → list_given count n l ≡ 0 → (n ≤ 20) × (l ≡ count n)
list-fits count n l =
    by-test (λ (t : ℕ). t ≡ 0 → (n ≤ 20) × (l ≡ count n)) (ltb 20 n) 1 (count_given (count n) l)
    (λ _ z. absurd (suc-ne-zero 0 z)) (λ e z. (ltb-false 20 n e, count_fits (count n) l z))

-- ---- an answer that goes into a list
module _ {X E J : Type 0} (K : JetKind X E J) where
  -- every entry of a jet, in the order of lists
  abbrev pub entries : J → List X
  entries a = K.list (K.numbers a) (K.order a)

  -- what is left of an answer: beside 0 all entries of its jet, beside another number the list as it was
  abbrev pub Left : Result J Refusal → List X → ℕ × List X → Type 0
  Left a out r = (r.0 ≡ 0 → (j : J) × ((a ≡ Ok j) × (r.1 ≡ entries j))) × (¬ (r.0 ≡ 0) → r.1 ≡ out)

  left-refused : (a : Result J Refusal) (out : List X) (c : ℕ) → ¬ (c ≡ 0) → Left a out (c, out)
  left-refused a out c h = (λ z. absurd (h z), λ _. refl)

  left-by : (a : Result J Refusal) (out : List X) (c : Refusal) → Left a out (number c, out)
  left-by a out c = left-refused a out (number c) (λ z. absurd (omega (arith, number-pos c, z)))

  pub admitted-left : (t : ℕ) (a : Result J Refusal) (out : List X) {r : ℕ × List X} → Left a out r → Left a out (admitted t out r)
  admitted-left t a out {r} l = by-test (Left a out) (eqb t 0) r (t, out) (λ _. l) (λ e. left-refused a out t (eqb-false t 0 e))

  pub deliver-left : (a : Result J Refusal) (out : List X) → Left a out (deliver K a out)
  unfolding deliver
  deliver-left (Ok j) out =
      let n = K.order j in
      let unfit = not (eqb (length out) (K.count n)) in
      let finite = K.finite (K.numbers j) n in
      let full : Result ⊤ Refusal × List X = (Ok tt, entries j) in
      let refuse : Refusal → Result ⊤ Refusal × List X = λ c. (Err c, out) in
      let P : Result ⊤ Refusal × List X → Type 0 = λ r. Left (Ok j) out (numbered r) in
      by-test P (ltb 20 n) (refuse OrderAbove20) (cond unfit (refuse Shape) (cond finite full (refuse InputNotFinite))) (λ _. left-by (Ok j) out OrderAbove20)
      (λ _. by-test P unfit (refuse Shape) (cond finite full (refuse InputNotFinite)) (λ _. left-by (Ok j) out Shape)
      (λ _. by-test P finite full (refuse InputNotFinite) (λ _. (λ _. (j, (refl, refl)), λ h. absurd (h refl))) (λ _. left-by (Ok j) out InputNotFinite)))
  deliver-left (Err c) out = left-by (Err c) out c

  -- it is written whole, and nothing of it is tested
  abbrev pub written : Result J Refusal → List X → ℕ × List X
  written (Ok j) out = (0, entries j)
  written (Err c) out = (number c, out)

  abbrev pub whole : Output X (Result J Refusal)
  whole = record { test = list_given K.count; deliver = written }

  -- what the function that writes a jet tests holds of an answer of the order n
  pub record FitJet (n : ℕ) (a : J) : Type 0 where
    pub order : K.order a ≡ n
    pub low : n ≤ 20
    pub finite : K.finite (K.numbers a) n ≡ true

  abbrev pub Fit : ℕ → Result J Refusal → Type 0
  Fit n (Ok a) = FitJet n a
  Fit n (Err c) = ⊤

  pub delivered : (n : ℕ) (a : Result J Refusal) (out : List X) → Fit n a → ((j : J) → a ≡ Ok j → length out ≡ K.count n) → deliver K a out ≡ written a out
  unfolding deliver
  delivered n (Ok a) out f e =
      let low : K.order a ≤ 20 = subst (λ (k : ℕ). k ≤ 20) (sym f.order) f.low in
      ap numbered (sym (into-worked K a out low refl (e a refl ∙ ap K.count (sym f.order)) refl (ap not (ap (K.finite (K.numbers a)) f.order ∙ f.finite))))
  delivered n (Err c) out f e = refl

-- ---- functions over lists, of whatever is read off them: what they leave
module _ {X E J M L : Type 0} (K : JetKind X E J) (I : Input X M) (I' : Input X L) (op : M → L → Result J Refusal) (m : ℕ) (a : List X) (n : ℕ) (b out : List X) where
  pub two-left : Left K (op (I.jet m a) (I'.jet n b)) out (over_two I I' (output K) op m a n b out)
  unfolding over_two
  two-left =
      admitted-left K (first (I.test m (length a)) (first (I'.test n (length b)) (list_given K.count (min m n) (length out)))) (op (I.jet m a) (I'.jet n b)) out
      (deliver-left K (op (I.jet m a) (I'.jet n b)) out)

  pub at_left : (k : ℕ) → Left K (op (I.jet m a) (I'.jet n b)) out (over_two_at I I' (output K) k op m a n b out)
  unfolding over_two_at
  at_left k =
      admitted-left K (first (I.test m (length a)) (first (I'.test n (length b)) (first (order_given k) (list_given K.count k (length out))))) (op (I.jet m a) (I'.jet n b)) out
      (deliver-left K (op (I.jet m a) (I'.jet n b)) out)

pub one_left : {X E J M : Type 0} (K : JetKind X E J) (I : Input X M) (op : M → Result J Refusal) (k n : ℕ) (a out : List X) →
    Left K (op (I.jet n a)) out (over_one I (output K) k op n a out)
unfolding over_one
one_left K I op k n a out =
    admitted-left K (first (I.test n (length a)) (list_given K.count k (length out))) (op (I.jet n a)) out (deliver-left K (op (I.jet n a)) out)

-- ---- and they refuse no answer that is fit
-- a kind's records read as they are made
pub record Read {X E J : Type 0} (K : JetKind X E J) : Type 0 where
  pub order : (n : ℕ) (x : E) → K.order (K.made n x) ≡ n

pub list-order : {X E J : Type 0} (K : JetKind X E J) → Read K → (n : ℕ) (l : List X) → n ≤ 20 → length l ≡ K.count n → K.order (jet_of_list K n l) ≡ n
list-order {J = J} K r n l h e = ap (λ (a : Result J Refusal). K.order (jet_of K a)) (sym (plain-is K n l h refl e)) ∙ r.order n (K.in_list n l)

module _ {X E J F L G H : Type 0} (K : JetKind X E J) (M : JetKind X F L) (R : JetKind X G H) where
  -- two jets, at the smaller order
  module _ (rk : Read K) (rm : Read M) (op : J → L → Result H Refusal) (fit : (x : J) (y : L) → Fit R (min (K.order x) (M.order y)) (op x y))
      (m : ℕ) (a : List X) (n : ℕ) (b out : List X) where
    pub two-whole : over_two (input K) (input M) (output R) op m a n b out ≡ over_two (input K) (input M) (whole R) op m a n b out
    unfolding over_two
    two-whole = go (ℕ_discrete test 0)
      where
        rest : ℕ
        rest = first (list_given M.count n (length b)) (list_given R.count (min m n) (length out))

        test : ℕ
        test = first (list_given K.count m (length a)) rest

        r : Result H Refusal
        r = op (jet_of_list K m a) (jet_of_list M n b)

        go : Dec (test ≡ 0) → admitted test out (deliver R r out) ≡ admitted test out ((whole R).deliver r out)
        go (yes z) =
            let p = list-fits K.count m (length a) (one-fits (list_given K.count m (length a)) rest z) in
            let z' = rest-fits (list_given K.count m (length a)) rest z in
            let q = list-fits M.count n (length b) (one-fits (list_given M.count n (length b)) (list_given R.count (min m n) (length out)) z') in
            let o = list-fits R.count (min m n) (length out) (rest-fits (list_given M.count n (length b)) (list_given R.count (min m n) (length out)) z') in
            let f = subst (λ (k : ℕ). Fit R k r) (ap₂ min (list-order K rk m a p.0 p.1) (list-order M rm n b q.0 q.1)) (fit (jet_of_list K m a) (jet_of_list M n b)) in
            ap (admitted test out) (delivered R (min m n) r out f (λ _ _. o.1))
        go (no z) = rw (ne_eqb test 0 z)

  -- at an order k that is asked
  module _ (k : ℕ) (op : J → L → Result H Refusal) (fit : (x : J) (y : L) → Fit R k (op x y)) (m : ℕ) (a : List X) (n : ℕ) (b out : List X) where
    pub at-whole : over_two_at (input K) (input M) (output R) k op m a n b out ≡ over_two_at (input K) (input M) (whole R) k op m a n b out
    unfolding over_two_at
    at-whole = go (ℕ_discrete test 0)
      where
        asked : ℕ
        asked = first (order_given k) (list_given R.count k (length out))

        rest : ℕ
        rest = first (list_given M.count n (length b)) asked

        test : ℕ
        test = first (list_given K.count m (length a)) rest

        r : Result H Refusal
        r = op (jet_of_list K m a) (jet_of_list M n b)

        go : Dec (test ≡ 0) → admitted test out (deliver R r out) ≡ admitted test out ((whole R).deliver r out)
        go (yes z) =
            let z1 = rest-fits (list_given K.count m (length a)) rest z in
            let z2 = rest-fits (list_given M.count n (length b)) asked z1 in
            let o = list-fits R.count k (length out) (rest-fits (order_given k) (list_given R.count k (length out)) z2) in
            ap (admitted test out) (delivered R k r out (fit (jet_of_list K m a) (jet_of_list M n b)) (λ _ _. o.1))
        go (no z) = rw (ne_eqb test 0 z)

-- one jet of the order n, to an answer of the order k
module _ {X E J G H : Type 0} (K : JetKind X E J) (R : JetKind X G H) (rk : Read K) (k : ℕ) (op : J → Result H Refusal) (n : ℕ)
    (fit : (x : J) → K.order x ≡ n → Fit R k (op x)) (a out : List X) where
  pub one-whole : over_one (input K) (output R) k op n a out ≡ over_one (input K) (whole R) k op n a out
  unfolding over_one
  one-whole = go (ℕ_discrete test 0)
    where
      test : ℕ
      test = first (list_given K.count n (length a)) (list_given R.count k (length out))

      r : Result H Refusal
      r = op (jet_of_list K n a)

      go : Dec (test ≡ 0) → admitted test out (deliver R r out) ≡ admitted test out ((whole R).deliver r out)
      go (yes z) =
          let p = list-fits K.count n (length a) (one-fits (list_given K.count n (length a)) (list_given R.count k (length out)) z) in
          let o = list-fits R.count k (length out) (rest-fits (list_given K.count n (length a)) (list_given R.count k (length out)) z) in
          ap (admitted test out) (delivered R k r out (fit (jet_of_list K n a) (list-order K rk n a p.0 p.1)) (λ _ _. o.1))
      go (no z) = rw (ne_eqb test 0 z)
