-- The loop that carries every input in turn: the jets so far stand in a list, and what is left to carry comes to the whole. Assumes nothing.
use Rattle.std.proofs.Common.{List, [], ◌∷◌, ◌++◌, map, ◌≡◌, ℕ, ◌+◌, ◌≤◌, ◌<◌, min, length, get_or, set, take, drop, Result, Ok, Err, sym, ap, ◌∙◌, add-one, arith, length-set, length-take, drop_of_length-le, drop-cons, length-take-le, take-suc-set, take_all, append_assoc, append-nil}
use mathlib.Core.Path.{fun_ext}
use Rattle.refusals.specs.declared.Refusal.{Refusal}
use Rattle.roads.specs.Recipe.{and_then}
use Rattle.roads.specs.Roads.{every_answer}
use Rattle.roads.proofs.Answers.{then-assoc, then-ok}
use Rattle.roads.proofs.Building.{take-four}

-- i of the jets given, of the kind X, are carried
module _ {X Y : Type 0} (along : X → Result Y Refusal) (blank : X) where
  abbrev pub Every : Type 0
  Every = Result (List Y) Refusal

  pub record Carrying (given : List X) (curves : List Y) (i : ℕ) : Type 0 where
    pub room : length given ≤ 4
    pub long : length curves ≡ 4
    pub rest : ◌≡◌ {A = Every} (and_then (every_answer (map along (drop i given))) (λ js. Ok (take i curves ++ js))) (every_answer (map along given))

  pub carry-begins : {given : List X} {curves : List Y} → length given ≤ 4 → length curves ≡ 4 → Carrying given curves 0
  carry-begins {given} r l = record { room = r; long = l; rest = sym (then-ok (every_answer (map along given))) }

  module _ {given : List X} {curves : List Y} {i : ℕ} (w : Carrying given curves i) where
    abbrev all : Every
    all = every_answer (map along given)

    module _ (b : i < length given) where
      abbrev here : X
      here = get_or given i blank

      abbrev later : Every
      later = every_answer (map along (drop (i + 1) given))

      put : Y → Every
      put j = and_then later (λ js. Ok (take i curves ++ (j ∷ js)))

      left : List X → Every
      left t = and_then (every_answer (map along t)) (λ js. Ok (take i curves ++ js))

      one-more : and_then (along here) put ≡ all
      unfolding every_answer put left
      one-more =
          ap (and_then (along here)) (fun_ext (λ j. sym (then-assoc later (λ js. Ok (j ∷ js)) (λ js. Ok (take i curves ++ js)))))
          ∙ sym (then-assoc (along here) (λ j. and_then later (λ js. Ok (j ∷ js))) (λ js. Ok (take i curves ++ js)))
          ∙ ap (λ (k : ℕ). left (here ∷ drop k given)) (add-one i)
          ∙ ap (λ (t : List X). left t) (sym (drop-cons given i blank b)) ∙ w.rest

      pub carry-stops : {c : Refusal} → along here ≡ Err c → ◌≡◌ {A = Every} (Err c) all
      carry-stops e = ap (λ (r : Result Y Refusal). and_then r put) (sym e) ∙ one-more

      pub carry-goes-on : {j : Y} → along here ≡ Ok j → Carrying given (set curves i j) (i + 1)
      unfolding put
      carry-goes-on {j} e = record {
        room = w.room;
        long = length-set curves i j ∙ w.long;
        rest = ap (and_then later) (fun_ext (λ js. ap (λ (l : List Y). Ok (l ++ js))
            (ap (λ (k : ℕ). take k (set curves i j)) (add-one i) ∙ take-suc-set curves i j (omega (arith, b, w.long, w.room)))
            ∙ ap (λ (l : List Y). Ok l) (append_assoc (take i curves) (j ∷ []) js)))
            ∙ ap (λ (r : Result Y Refusal). and_then r put) (sym e) ∙ one-more;
      }

    pub carry-ends : length given ≤ i → i ≤ length given → ◌≡◌ {A = Every} (Ok (take (length given) curves)) all
    unfolding every_answer
    carry-ends b l =
        let e : i ≡ length given = omega arith in
        ap (λ (k : ℕ). Ok (take k curves)) (sym e)
        ∙ ap (λ (l : List Y). Ok l) (sym (append-nil (take i curves)))
        ∙ ap (λ (t : List X). and_then (every_answer (map along t)) (λ js. Ok (take i curves ++ js))) (sym (drop_of_length-le given {i = i} b))
        ∙ w.rest

-- ---- every input is carried, where the first g of the four are
module _ {X Y : Type 0} (along : X → Result Y Refusal) (jets : List X) (four : length jets ≡ 4) (inputs g : ℕ) (ge : g ≡ min inputs 4) where
  all-given : every_answer (map along (take g jets)) ≡ every_answer (map along (take inputs jets))
  all-given = ap (λ (l : List X). every_answer (map along l)) (take-four jets four inputs g ge)

  pub all-stop : {c : Refusal} → ◌≡◌ {A = Result (List Y) Refusal} (Err c) (every_answer (map along (take g jets))) → ◌≡◌ {A = Result (List Y) Refusal} (Err c) (every_answer (map along (take inputs jets)))
  all-stop e = e ∙ all-given

  given-count : length (take g jets) ≡ g
  given-count = length-take-le g jets (omega (arith, four, ge))

  pub all-carried : (l : List Y) → length l ≡ 4 → ◌≡◌ {A = Result (List Y) Refusal} (Ok (take (length (take g jets)) l)) (every_answer (map along (take g jets))) →
      ◌≡◌ {A = Result (List Y) Refusal} (Ok (take inputs l)) (every_answer (map along (take inputs jets)))
  all-carried l long e = ap (λ (k : List Y). Ok k) (sym (take-four l long inputs g ge) ∙ ap (λ (k : ℕ). take k l) (sym given-count)) ∙ e ∙ all-given

-- what is taken twice
pub taken : {Y : Type 0} (inputs : ℕ) (l : List Y) → take inputs l ≡ take inputs (take inputs l)
taken inputs l = sym (take_all inputs (take inputs l) (omega (arith, length-take inputs l)))
