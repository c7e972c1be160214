-- Jets of every kind, and what a function on them answers: the jet, with zeros past its order; or the refusal of the first test that
-- fails. Checked as 1, 2, 5; then what the work itself refuses; 10 last. Assumes nothing.
use Rattle.std.specs.Prelude.{Bool, true, false, cond, not, ◌&&◌, ◌||◌, List, ℕ, suc, ◌+◌, ◌*◌, ◌-◌, min, ltb, eqb, length, Result, Ok, Err, ⊤}
use Rattle.refusals.specs.declared.Refusal.{Refusal}
use Rattle.refusals.specs.declared.Refusal.TheVariants.{OrderAbove20, Shape, InputNotFinite, AnswerNotFinite}
use Rattle.calculus.specs.Graded.{triangle, index, graded}
use Rattle.calculus.specs.Array.{curve_array, surface_array}
use Rattle.calculus.specs.Order.{curve_entries, surface_entries, list_place, pairs}

-- ---- the entries of jets, Y, as they stand in lists of X: a number is one X, a vector three
pub record Entries (X Y : Type 0) : Type 0 where
  pub zero : Y
  -- the entry k of a list, and the list of entries
  pub at : List X → ℕ → Y
  pub flat : List Y → List X
  -- how many X are k entries, and k zeros
  pub size : ℕ → ℕ
  pub zeros : ℕ → List X
  -- whether the first k are finite, and all of a list
  pub finite : (ℕ → Y) → ℕ → Bool
  pub finite_list : List X → Bool

-- ---- the record of a kind of jet: S is what a jet stores beside its order
pub record Records (S J : Type 0) : Type 0 where
  pub order : J → ℕ
  pub stored : J → S
  pub make : ℕ → S → J

-- ---- a kind of jet, J: E is its entries by their orders
pub record JetKind (X E J : Type 0) : Type 0 where
  pub order : J → ℕ
  pub numbers : J → E
  -- whether the entries up to an order are finite
  pub finite : E → ℕ → Bool
  -- the jet of an order, with zeros past it, and the zero jet
  pub made : ℕ → E → J
  pub none : J
  -- a list of the order n: how many X it has, its entries, and the list of entries
  pub count : ℕ → ℕ
  pub in_list : ℕ → List X → E
  pub list : E → ℕ → List X
  pub finite_list : List X → Bool

module _ {X Y J : Type 0} (N : Entries X Y) (R : Records (List X) J) where
  abbrev pub jets_of_curves : JetKind X (ℕ → Y) J
  jets_of_curves = record {
    order = R.order;
    numbers = λ a. N.at (R.stored a);
    finite = λ x n. N.finite x (suc n);
    made = λ n x. R.make n (N.flat (curve_array N.zero x n));
    none = R.make 0 (N.zeros 21);
    count = λ n. N.size (suc n);
    in_list = λ n. N.at;
    list = λ x n. N.flat (curve_entries x n);
    finite_list = N.finite_list;
  }

  -- in an array [i][j] stands by its total order, in a list by i
  abbrev pub jets_of_surfaces : JetKind X (ℕ → ℕ → Y) J
  jets_of_surfaces = record {
    order = R.order;
    numbers = λ a i j. N.at (R.stored a) (index i j);
    finite = λ s n. N.finite (graded s) (triangle (suc n));
    made = λ n s. R.make n (N.flat (surface_array N.zero s n));
    none = R.make 0 (N.zeros 231);
    count = λ n. N.size (triangle (suc n));
    in_list = λ n l i j. N.at l (list_place n i j);
    list = λ s n. N.flat (surface_entries s n);
    finite_list = N.finite_list;
  }

-- curves (u, v) in the parameters of a surface: two arrays, and a list u0 v0 u1 v1 ..
abbrev pub jets_of_parameters : {X J : Type 0} → Entries X X → Records (List X × List X) J → JetKind X ((ℕ → X) × (ℕ → X)) J
jets_of_parameters N R = record {
  order = R.order;
  numbers = λ a. (N.at (R.stored a).0, N.at (R.stored a).1);
  finite = λ x n. N.finite x.0 (suc n) && N.finite x.1 (suc n);
  made = λ n x. R.make n (curve_array N.zero x.0 n, curve_array N.zero x.1 n);
  none = R.make 0 (N.zeros 21, N.zeros 21);
  count = λ n. 2 * suc n;
  in_list = λ n l. (λ k. N.at l (2 * k), λ k. N.at l (2 * k + 1));
  list = λ x n. pairs x.0 x.1 0 (suc n);
  finite_list = N.finite_list;
}

-- ---- the tests before the work: an order is above 20, an order or a length does not fit, what is read is finite
abbrev pub tested : {B : Type 0} → (Refusal → B) → Bool → Bool → Bool → B → B
tested refuse above20 unfit finite r = cond above20 (refuse OrderAbove20) (cond unfit (refuse Shape) (cond finite r (refuse InputNotFinite)))

abbrev pub above20 : ℕ → ℕ → Bool
above20 m n = ltb 20 m || ltb 20 n

module _ {X E J : Type 0} (K : JetKind X E J) where
  -- the jet of an answer: document 01 has the zero jet of order 0 beside a refusal's number
  abbrev pub jet_of : Result J Refusal → J
  jet_of (Ok a) = a
  jet_of (Err c) = K.none

  abbrev pub answered : ℕ → E → Result J Refusal
  answered n x = Ok (K.made n x)

  -- what has been computed: 10 where an entry is not finite
  abbrev pub returned : ℕ → E → Result J Refusal
  returned n x = cond (K.finite x n) (answered n x) (Err AnswerNotFinite)

  -- a jet whose entries have been computed: 1 where its order is above 20
  abbrev pub returned_jet : J → Result J Refusal
  returned_jet a =
      let n = K.order a in
      cond (ltb 20 n) (Err OrderAbove20) (cond (K.finite (K.numbers a) n) (Ok a) (Err AnswerNotFinite))

  -- a jet at a smaller order, with zeros past it
  abbrev pub cut : J → ℕ → J
  cut a n = K.made n (K.numbers a)

  abbrev pub finite_up_to : J → ℕ → Bool
  finite_up_to a = K.finite (K.numbers a)

  -- from a list; and from one of any floats
  abbrev pub from_list : ℕ → List X → Result J Refusal
  from_list n l = tested Err (ltb 20 n) (not (eqb (length l) (K.count n))) (K.finite_list l) (answered n (K.in_list n l))

  abbrev pub of_list : ℕ → List X → Result J Refusal
  of_list n l = tested Err (ltb 20 n) (not (eqb (length l) (K.count n))) true (answered n (K.in_list n l))

  abbrev pub jet_of_list : ℕ → List X → J
  jet_of_list n l = jet_of (of_list n l)

  -- into a list: what is answered, and what the list holds then
  abbrev pub into_list : J → List X → Result ⊤ Refusal × List X
  into_list a out =
      let n = K.order a in
      tested (λ (c : Refusal). (Err c, out)) (ltb 20 n) (not (eqb (length out) (K.count n))) (finite_up_to a n) (Ok tt, K.list (K.numbers a) n)

  -- a derivative has one order less
  abbrev pub differentiated : (E → E) → J → Result J Refusal
  differentiated d a =
      let n = K.order a in
      tested Err (ltb 20 n) (eqb n 0) (finite_up_to a n) (answered (n - 1) (d (K.numbers a)))

  -- work on one jet, at its order
  abbrev pub on_one : {B : Type 0} → (E → ℕ → Result B Refusal) → J → Result B Refusal
  on_one op a =
      let n = K.order a in
      tested Err (ltb 20 n) false (finite_up_to a n) (op (K.numbers a) n)

  module _ {Y F L : Type 0} (M : JetKind Y F L) {C : Type 0} where
    -- on two, at the smaller order
    abbrev pub on_two : (E → F → ℕ → Result C Refusal) → J → L → Result C Refusal
    on_two op a b =
        let n = min (K.order a) (M.order b) in
        tested Err (above20 (K.order a) (M.order b)) false (finite_up_to a n && M.finite (M.numbers b) n) (op (K.numbers a) (M.numbers b) n)

    -- and at an order n that is asked
    abbrev pub on_two_at : (E → F → Result C Refusal) → J → L → ℕ → Result C Refusal
    on_two_at op a b n =
        tested Err (above20 (K.order a) (M.order b) || ltb 20 n) (ltb (min (K.order a) (M.order b)) n)
        (finite_up_to a n && M.finite (M.numbers b) n) (op (K.numbers a) (M.numbers b))

-- a formula on two jets, of the kinds K and M: the jet of the kind R that it computes, at the smaller order
abbrev pub by_formula : {X E J Y F L Z G H : Type 0} → JetKind X E J → JetKind Y F L → JetKind Z G H → (E → F → G) → J → L → Result H Refusal
by_formula K M R f = on_two K M (λ x y n. returned R n (f x y))
