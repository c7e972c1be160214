-- The loop of a recipe's steps, over any kind of jet: what is left to work, on the jets in hand, comes to the whole. Assumes nothing.
use Rattle.std.proofs.Common.{Result, Ok, Err, Bool, true, false, cond, List, [], ◌∷◌, ◌≡◌, ℕ, suc, ◌+◌, ◌-◌, ◌*◌, ◌^◌, ◌≤◌, ◌<◌, ltb, eqb, length, get_or, set, drop, sym, ap, ap₂, ◌∙◌, add-zero, mul-le-mul_right, w64, Fits, add-one, arith, length-set, drop_of_length-le, drop-cons, get_or-set_same, get_or-set_other, ltb-true, eq-eqb, ne_eqb}
use mathlib.Core.Path.{fun_ext}
use native.Mathlib.Decide.{ℕ_discrete}
use Rattle.std.proofs.lemmas.List.{get_or_default}
use Rattle.refusals.specs.declared.Refusal.{Refusal}
use Rattle.whole.proofs.History.{both_true}
use Rattle.calculus.specs.declared.Operation.TheVariants.{Sum}
use Rattle.roads.specs.declared.Step.{Step}
use Rattle.roads.specs.Recipe.{RecipeKind, and_then, with, names_earlier, worked}

module _ {J : Type 0} (K : RecipeKind J) where
  -- a list of jets, by number
  abbrev pub held : List J → ℕ → J
  held l i = get_or l i K.blank

  -- a jet is stored
  stored : (l : List J) (m : ℕ) (j : J) → m < length l → held (set l m j) ≡ with (held l) m j
  stored l m j h = fun_ext (λ i. by i (ℕ_discrete i m))
    where
      by : (i : ℕ) → Dec (i ≡ m) → held (set l m j) i ≡ with (held l) m j i
      by i (yes e) = ap (held (set l m j)) e ∙ get_or-set_same l m j K.blank h ∙ sym (ap (λ (t : Bool). cond t j (held l i)) (eq-eqb i m e))
      by i (no e) = get_or-set_other l m i j K.blank e ∙ sym (ap (λ (t : Bool). cond t j (held l i)) (ne_eqb i m e))

  -- hands that agree below m
  with-same : (f g : ℕ → J) (m : ℕ) (j : J) → ((i : ℕ) → i < m → f i ≡ g i) → (i : ℕ) → i < suc m → with f m j i ≡ with g m j i
  with-same f g m j h i b = by (ℕ_discrete i m)
    where
      by : Dec (i ≡ m) → with f m j i ≡ with g m j i
      by (yes e) = ap (λ (t : Bool). cond t j (f i)) (eq-eqb i m e) ∙ sym (ap (λ (t : Bool). cond t j (g i)) (eq-eqb i m e))
      by (no e) = ap (cond (eqb i m) j) (h i (omega arith))

  pub worked_same : (ss : List Step) (f g : ℕ → J) (m : ℕ) → 0 < m → ((i : ℕ) → i < m → f i ≡ g i) → names_earlier m ss ≡ true → worked K f m ss ≡ worked K g m ss
  unfolding worked names_earlier
  worked_same [] f g m p h e = ap (λ (j : J). Ok j) (h (m - 1) (omega arith))
  worked_same (s ∷ ss) f g m p h e =
      let x = both_true (ltb s.left m) (cond (ltb s.right m) (names_earlier (suc m) ss) false) e in
      let y = both_true (ltb s.right m) (names_earlier (suc m) ss) x.1 in
      ap₂ (λ (l r : J). and_then (K.apply s.operation l r) (λ j. worked K (with f m j) (suc m) ss)) (h s.left (ltb-true s.left m x.0)) (h s.right (ltb-true s.right m y.0))
      ∙ ap (and_then (K.apply s.operation (g s.left) (g s.right)))
      (fun_ext (λ j. worked_same ss (with f m j) (with g m j) (suc m) (omega arith) (with-same f g m j h) y.1))

-- ---- a program is worked on the jets `start`; i of its steps are done
pub record Working {J : Type 0} (K : RecipeKind J) (start : List J) (inputs : ℕ) (program : List Step) (jet-of : List J) (i : ℕ) : Type 0 where
  pub four : inputs ≤ 4
  pub twelve : length program ≤ 12
  pub wide : length jet-of ≡ 16
  pub names : names_earlier (inputs + i) (drop i program) ≡ true
  pub rest : worked K (held K jet-of) (inputs + i) (drop i program) ≡ worked K (held K start) inputs program

-- what is read past a program's end
abbrev none : Step
none = record { operation = Sum; left = 0; right = 0 }

module _ {J : Type 0} (K : RecipeKind J) {start : List J} {inputs : ℕ} {program : List Step} where
  pub work-begins : inputs ≤ 4 → length program ≤ 12 → length start ≡ 16 → names_earlier inputs program ≡ true → Working K start inputs program start 0
  work-begins f t w e = record {
    four = f;
    twelve = t;
    wide = w;
    names = ap (λ (m : ℕ). names_earlier m program) (add-zero inputs) ∙ e;
    rest = ap (λ (m : ℕ). worked K (held K start) m program) (add-zero inputs);
  }

module _ {J : Type 0} {K : RecipeKind J} {start : List J} {inputs : ℕ} {program : List Step} {jet-of : List J} {i : ℕ} (w : Working K start inputs program jet-of i) where
  abbrev outcome : Result J Refusal
  outcome = worked K (held K start) inputs program

  -- the step i
  module _ (b : i < length program) where
    abbrev step : Step
    step = get_or program i none

    abbrev later : List Step
    later = drop (i + 1) program

    left_over : drop i program ≡ step ∷ later
    left_over = drop-cons program i none b ∙ ap (λ (k : ℕ). step ∷ drop k program) (sym (add-one i))

    named : (step.left < inputs + i) × (step.right < inputs + i) × (names_earlier (suc (inputs + i)) later ≡ true)
    unfolding names_earlier
    named =
        let e : names_earlier (inputs + i) (step ∷ later) ≡ true = ap (names_earlier (inputs + i)) (sym left_over) ∙ w.names in
        let x = both_true (ltb step.left (inputs + i)) (cond (ltb step.right (inputs + i)) (names_earlier (suc (inputs + i)) later) false) e in
        let y = both_true (ltb step.right (inputs + i)) (names_earlier (suc (inputs + i)) later) x.1 in
        (ltb-true step.left (inputs + i) x.0, ltb-true step.right (inputs + i) y.0, y.1)

    -- it names jets in hand
    pub left_in : step.left < 16
    left_in = omega (arith, named.0, w.four, w.twelve)

    pub right-in : step.right < 16
    right-in = omega (arith, named.1, w.four, w.twelve)

    abbrev answer : Result J Refusal
    answer = K.apply step.operation (held K jet-of step.left) (held K jet-of step.right)

    after : J → Result J Refusal
    after j = worked K (with (held K jet-of) (inputs + i) j) (suc (inputs + i)) later

    one-step : and_then answer after ≡ outcome
    unfolding worked after
    one-step = ap (worked K (held K jet-of) (inputs + i)) (sym left_over) ∙ w.rest

    -- a step reads what is in hand, whatever stands for what is not
    at-hand : {r : Result J Refusal} (d e : J) → r ≡ K.apply step.operation (get_or jet-of step.left d) (get_or jet-of step.right e) → r ≡ answer
    at-hand d e h =
        h ∙ ap₂ (K.apply step.operation) (get_or_default jet-of step.left d K.blank (omega (arith, left_in, w.wide)))
        (get_or_default jet-of step.right e K.blank (omega (arith, right-in, w.wide)))

    pub work-stops : {r : Result J Refusal} (d e : J) → r ≡ K.apply step.operation (get_or jet-of step.left d) (get_or jet-of step.right e) →
        {c : Refusal} → r ≡ Err c → Err c ≡ outcome
    work-stops d e h k = ap (λ (a : Result J Refusal). and_then a after) (sym k ∙ at-hand d e h) ∙ one-step

    pub work-goes-on : {r : Result J Refusal} (d e : J) → r ≡ K.apply step.operation (get_or jet-of step.left d) (get_or jet-of step.right e) →
        {j : J} → r ≡ Ok j → Working K start inputs program (set jet-of (inputs + i) j) (i + 1)
    unfolding after
    work-goes-on d e h {j} k =
        let m : inputs + (i + 1) ≡ suc (inputs + i) = omega arith in
        record {
          four = w.four;
          twelve = w.twelve;
          wide = length-set jet-of (inputs + i) j ∙ w.wide;
          names = ap (λ (k : ℕ). names_earlier k later) m ∙ named.2;
          rest = ap₂ (λ (f : ℕ → J) (k : ℕ). worked K f k later) (stored K jet-of (inputs + i) j (omega (arith, b, w.wide, w.four, w.twelve))) m
              ∙ ap (λ (a : Result J Refusal). and_then a after) (sym k ∙ at-hand d e h) ∙ one-step;
        }

  pub work-ends : (d : J) → 0 < inputs → length program ≤ i → i ≤ length program → Ok (get_or jet-of (inputs + length program - 1) d) ≡ outcome
  unfolding worked
  work-ends d p h l =
      let e : i ≡ length program = omega arith in
      ap (λ (j : J). Ok j) (get_or_default jet-of (inputs + length program - 1) d K.blank (omega (arith, w.wide, w.four, w.twelve, p)))
      ∙ ap (λ (k : ℕ). Ok (held K jet-of (inputs + k - 1))) (sym e)
      ∙ ap (worked K (held K jet-of) (inputs + i)) (sym (drop_of_length-le program {i = i} h))
      ∙ w.rest

-- where sixteen fit in memory, a jet's place among them is a number of the machine
pub offset : (i s : ℕ) → i < 16 → 16 * s < 2 ^ 63 → Fits w64 (i * s)
offset i s h k = omega (arith, mul-le-mul_right {m = i} {n = 16} s (omega arith), k)
