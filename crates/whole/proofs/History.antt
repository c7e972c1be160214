-- Numbers with their history: what each operation comes to is the checked operation, and what a verdict says of the numbers that were formed.
-- Assumes nothing.
use Rattle.std.proofs.Common.{◌≡◌, refl, sym, ap, ◌∙◌, arith, Bool, true, false, cond, List, [], ◌∷◌, ◌++◌, map, ℕ, eqb, ℤ, pos, ◌+ℤ◌, ◌-ℤ◌, ◌*ℤ◌, nat_abs, Result, Ok, Err, is_ok}
use Rattle.std.specs.Int.Signed.{quot_z, rem_z}
use Rattle.std.specs.Result.{result_and}
use Rattle.refusals.specs.Number.{number_of}
use Rattle.refusals.specs.declared.Refusal.{Refusal}
use Rattle.refusals.specs.declared.Refusal.TheVariants.{DivisionByZero, Remainder, OutOfRange}
use Rattle.whole.specs.Checked.{Whole, in_range, formed, divided, both, plus, minus, times, over, of_nat}
use Rattle.whole.specs.History.{Event, forms, divides, Traced, Verdict, range_verdict, division_verdict, judge, verdict, settle, bare, then, traced_plus, traced_minus, traced_times, traced_over, traced_of_nat, numbers, every, exact}
use Rattle.whole.proofs.Range.{never}
use Rattle.whole.proofs.Answers.{same-value}

-- ---- the verdict on two histories, one after the other
and_assoc : (a b c : Verdict) → result_and (result_and a b) c ≡ result_and a (result_and b c)
and_assoc (Ok x) b c = refl
and_assoc (Err r) b c = refl

pub verdict-append : (h k : List Event) → verdict (h ++ k) ≡ result_and (verdict h) (verdict k)
unfolding verdict
verdict-append [] k = refl
verdict-append (e ∷ h) k = ap (result_and (judge e)) (verdict-append h k) ∙ sym (and_assoc (judge e) (verdict h) (verdict k))

pub verdict-then : (f : ℤ → ℤ → ℤ) (es : ℤ → ℤ → List Event) (s t : Traced) → verdict (then f es s t).history ≡ result_and (verdict s.history) (result_and (verdict t.history) (verdict (es s.value t.value)))
verdict-then f es s t =
    verdict-append s.history (t.history ++ es s.value t.value)
    ∙ ap (result_and (verdict s.history)) (verdict-append t.history (es s.value t.value))

-- ---- each operation comes to the checked one
by_cases : (f : ℤ → ℤ → Whole) (v w u : Verdict) (x y z : ℤ) → result_and u (Ok z) ≡ f x y →
    result_and (result_and v (result_and w u)) (Ok z) ≡ both f (result_and v (Ok x)) (result_and w (Ok y))
by_cases f (Ok i) (Ok j) u x y z e = e
by_cases f (Ok i) (Err d) u x y z e = refl
by_cases f (Err c) w u x y z e = refl

pub settle-then : (f : ℤ → ℤ → ℤ) (es : ℤ → ℤ → List Event) (g : ℤ → ℤ → Whole) → ((x y : ℤ) → result_and (verdict (es x y)) (Ok (f x y)) ≡ g x y) →
    (s t : Traced) → settle (then f es s t) ≡ both g (settle s) (settle t)
settle-then f es g e s t =
    ap (λ (v : Verdict). result_and v (Ok (f s.value t.value))) (verdict-then f es s t)
    ∙ by_cases g (verdict s.history) (verdict t.history) (verdict (es s.value t.value)) s.value t.value (f s.value t.value) (e s.value t.value)

in-or-out : (t : Bool) (z : ℤ) → result_and (result_and (range_verdict t) (verdict [])) (Ok z) ≡ cond {0} t (Ok z) (Err OutOfRange)
unfolding verdict
in-or-out true z = refl
in-or-out false z = refl

forms-one : (z : ℤ) → result_and (verdict (forms z ∷ [])) (Ok z) ≡ formed z
unfolding verdict formed
forms-one z = in-or-out (in_range z) z

division : (t u : Bool) (r : Verdict) (z : ℤ) (w : Whole) → result_and r (Ok z) ≡ w →
    result_and (result_and (division_verdict t u) r) (Ok z) ≡ cond t (Err DivisionByZero) (cond u w (Err Remainder))
division true u r z w e = refl
division false true r z w e = e
division false false r z w e = refl

divides-one : (x y : ℤ) → result_and (verdict (divides x y ∷ (forms (quot_z x y) ∷ []))) (Ok (quot_z x y)) ≡ divided x y
unfolding verdict divided
divides-one x y = division (eqb (nat_abs y) 0) (eqb (nat_abs (rem_z x y)) 0) (verdict (forms (quot_z x y) ∷ [])) (quot_z x y) (formed (quot_z x y)) (forms-one (quot_z x y))

pub settle-bare : (z : ℤ) → settle (bare z) ≡ Ok z
unfolding verdict
settle-bare z = refl

pub settle-plus : (s t : Traced) → settle (traced_plus s t) ≡ plus (settle s) (settle t)
settle-plus = settle-then ◌+ℤ◌ (λ x y. forms (x +ℤ y) ∷ []) (λ x y. formed (x +ℤ y)) (λ x y. forms-one (x +ℤ y))

pub settle-minus : (s t : Traced) → settle (traced_minus s t) ≡ minus (settle s) (settle t)
settle-minus = settle-then ◌-ℤ◌ (λ x y. forms (x -ℤ y) ∷ []) (λ x y. formed (x -ℤ y)) (λ x y. forms-one (x -ℤ y))

pub settle-times : (s t : Traced) → settle (traced_times s t) ≡ times (settle s) (settle t)
settle-times = settle-then ◌*ℤ◌ (λ x y. forms (x *ℤ y) ∷ []) (λ x y. formed (x *ℤ y)) (λ x y. forms-one (x *ℤ y))

pub settle-over : (s t : Traced) → settle (traced_over s t) ≡ over (settle s) (settle t)
settle-over = settle-then quot_z (λ x y. divides x y ∷ (forms (quot_z x y) ∷ [])) divided divides-one

pub settle-of_nat : (n : ℕ) → settle (traced_of_nat n) ≡ of_nat n
settle-of_nat n = forms-one (pos n)

-- ---- a number is answered where nothing is refused, and otherwise the verdict is the refusal
pub settle-answered : (t : Traced) → verdict t.history ≡ Ok tt → settle t ≡ Ok t.value
settle-answered t h = ap (λ (v : Verdict). result_and v (Ok t.value)) h

pub settle-refused : (t : Traced) (c : Refusal) → verdict t.history ≡ Err c → settle t ≡ Err c
settle-refused t c h = ap (λ (v : Verdict). result_and v (Ok t.value)) h

verdict_by : (v : Verdict) (z : ℤ) → result_and (result_and v (Ok z)) (Ok tt) ≡ v
verdict_by (Ok tt) z = refl
verdict_by (Err c) z = refl

verdict-of-settle : (t : Traced) {w : Whole} → settle t ≡ w → verdict t.history ≡ result_and w (Ok tt)
verdict-of-settle t h = sym (verdict_by (verdict t.history) t.value) ∙ ap (λ (w : Whole). result_and w (Ok tt)) h

pub answered-verdict : (t : Traced) {z : ℤ} → settle t ≡ Ok z → verdict t.history ≡ Ok tt
answered-verdict t h = verdict-of-settle t h

pub answered-value : (t : Traced) {z : ℤ} → settle t ≡ Ok z → t.value ≡ z
answered-value t h = same-value (sym (settle-answered t (answered-verdict t h)) ∙ h)

pub refused-verdict : (t : Traced) {c : Refusal} → settle t ≡ Err c → verdict t.history ≡ Err c
refused-verdict t h = verdict-of-settle t h

-- ---- two tests
pub both_true : (t u : Bool) → cond t u false ≡ true → (t ≡ true) × (u ≡ true)
both_true true u e = (refl, e)
both_true false u e = never e

true-both : (t u : Bool) → t ≡ true → u ≡ true → cond t u false ≡ true
true-both t u e f = rw (e, f)

-- ---- what a history is made of, for two histories one after the other
pub numbers-append : (h k : List Event) → numbers (h ++ k) ≡ numbers h ++ numbers k
unfolding numbers
numbers-append [] k = refl
numbers-append (forms z ∷ h) k = ap (λ (l : List ℤ). z ∷ l) (numbers-append h k)
numbers-append (divides x y ∷ h) k = numbers-append h k

if-append : (t u v w : Bool) → u ≡ cond v w false → cond t u false ≡ cond (cond t v false) w false
if-append true u v w e = e
if-append false u v w e = refl

divides-append : (t s u v w : Bool) → u ≡ cond v w false → cond t false (cond s u false) ≡ cond (cond t false (cond s v false)) w false
divides-append true s u v w e = refl
divides-append false s u v w e = if-append s u v w e

pub exact-append : (h k : List Event) → exact (h ++ k) ≡ cond (exact h) (exact k) false
unfolding exact
exact-append [] k = refl
exact-append (forms z ∷ h) k = exact-append h k
exact-append (divides x y ∷ h) k = divides-append (eqb (nat_abs y) 0) (eqb (nat_abs (rem_z x y)) 0) (exact (h ++ k)) (exact h) (exact k) (exact-append h k)

pub every_append : (p : ℤ → Bool) (y z : List ℤ) → every p (y ++ z) ≡ cond (every p y) (every p z) false
unfolding every
every_append p [] z = refl
every_append p (a ∷ y) z = if-append (p a) (every p (y ++ z)) (every p y) (every p z) (every_append p y z)

-- a test that follows from another
pub every-weaken : (p q : ℤ → Bool) → ((z : ℤ) → p z ≡ true → q z ≡ true) → (l : List ℤ) → every p l ≡ true → every q l ≡ true
unfolding every
every-weaken p q f [] h = refl
every-weaken p q f (z ∷ l) h =
    let s = both_true (p z) (every p l) h in
    true-both (q z) (every q l) (f z s.0) (every-weaken p q f l s.1)

-- ---- what an operation adds to the histories of its two numbers
module _ (f : ℤ → ℤ → ℤ) (es : ℤ → ℤ → List Event) (s t : Traced) where
  pub numbers-then : numbers (then f es s t).history ≡ numbers s.history ++ (numbers t.history ++ numbers (es s.value t.value))
  numbers-then =
      numbers-append s.history (t.history ++ es s.value t.value)
      ∙ ap (λ (l : List ℤ). numbers s.history ++ l) (numbers-append t.history (es s.value t.value))

  pub exact-then : exact s.history ≡ true → exact t.history ≡ true → exact (es s.value t.value) ≡ true → exact (then f es s t).history ≡ true
  exact-then hs ht he =
      exact-append s.history (t.history ++ es s.value t.value)
      ∙ true-both (exact s.history) (exact (t.history ++ es s.value t.value)) hs
      (exact-append t.history (es s.value t.value) ∙ true-both (exact t.history) (exact (es s.value t.value)) ht he)

pub exact_one : (z : ℤ) → exact (forms z ∷ []) ≡ true
unfolding exact
exact_one z = refl

pub exact-division : (x y : ℤ) → eqb (nat_abs y) 0 ≡ false → eqb (nat_abs (rem_z x y)) 0 ≡ true → exact (divides x y ∷ (forms (quot_z x y) ∷ [])) ≡ true
unfolding exact
exact-division x y h k = rw (h, k)

pub numbers-one : (z : ℤ) → numbers (forms z ∷ []) ≡ z ∷ []
unfolding numbers
numbers-one z = refl

pub numbers-division : (x y : ℤ) → numbers (divides x y ∷ (forms (quot_z x y) ∷ [])) ≡ quot_z x y ∷ []
unfolding numbers
numbers-division x y = refl

-- ---- where every division is exact, a history is refused exactly where a number that it forms is out of range
one_more : (t u : Bool) → result_and (range_verdict t) (range_verdict u) ≡ range_verdict (cond t u false)
one_more true u = refl
one_more false u = refl

divides-more : (t s u : Bool) (v w : Verdict) → cond t false (cond s u false) ≡ true → (u ≡ true → v ≡ w) →
    result_and (division_verdict t s) v ≡ w
divides-more true s u v w e f = never e
divides-more false true u v w e f = f e
divides-more false false u v w e f = never e

pub verdict-exact : (h : List Event) → exact h ≡ true → verdict h ≡ range_verdict (every in_range (numbers h))
unfolding verdict exact numbers every
verdict-exact [] e = refl
verdict-exact (forms z ∷ h) e = ap (result_and (range_verdict (in_range z))) (verdict-exact h e) ∙ one_more (in_range z) (every in_range (numbers h))
verdict-exact (divides x y ∷ h) e =
    divides-more (eqb (nat_abs y) 0) (eqb (nat_abs (rem_z x y)) 0) (exact h) (verdict h) (range_verdict (every in_range (numbers h))) e (verdict-exact h)

pub exact-forms : (l : List ℤ) → exact (map forms l) ≡ true
unfolding exact
exact-forms [] = refl
exact-forms (z ∷ l) = exact-forms l

pub numbers-forms : (l : List ℤ) → numbers (map forms l) ≡ l
unfolding numbers
numbers-forms [] = refl
numbers-forms (z ∷ l) = ap (λ (k : List ℤ). z ∷ k) (numbers-forms l)

-- a history that forms numbers only
pub verdict-forms : (l : List ℤ) → verdict (map forms l) ≡ range_verdict (every in_range l)
verdict-forms l = verdict-exact (map forms l) (exact-forms l) ∙ ap (λ (k : List ℤ). range_verdict (every in_range k)) (numbers-forms l)

settle-cond : (t : Bool) (z : ℤ) → result_and (range_verdict t) (Ok z) ≡ cond t (Ok z) (Err OutOfRange)
settle-cond true z = refl
settle-cond false z = refl

pub settle-exact : (t : Traced) → exact t.history ≡ true → settle t ≡ cond (every in_range (numbers t.history)) (Ok t.value) (Err OutOfRange)
settle-exact t e =
    ap (λ (v : Verdict). result_and v (Ok t.value)) (verdict-exact t.history e) ∙ settle-cond (every in_range (numbers t.history)) t.value

-- ---- what a verdict says of its history
pub both-ok : {A : Type 0} (v : Verdict) (w : Result A Refusal) {a : A} → result_and v w ≡ Ok a → (v ≡ Ok tt) × (w ≡ Ok a)
both-ok (Ok tt) w e = (refl, e)
both-ok (Err c) w e = never (ap is_ok e)

pub verdict-parts : (h k : List Event) → verdict (h ++ k) ≡ Ok tt → (verdict h ≡ Ok tt) × (verdict k ≡ Ok tt)
verdict-parts h k e = both-ok (verdict h) (verdict k) (sym (verdict-append h k) ∙ e)

pub in-range-true : (t : Bool) → range_verdict t ≡ Ok tt → t ≡ true
in-range-true true e = refl
in-range-true false e = never (ap is_ok e)

exact-first : (t s u : Bool) → division_verdict t s ≡ Ok tt → u ≡ true → cond t false (cond s u false) ≡ true
exact-first true s u e h = never (ap is_ok e)
exact-first false true u e h = h
exact-first false false u e h = never (ap is_ok e)

pub answered-exact : (h : List Event) → verdict h ≡ Ok tt → exact h ≡ true
unfolding verdict exact
answered-exact [] e = refl
answered-exact (forms z ∷ h) e = answered-exact h (both-ok (judge (forms z)) (verdict h) e).1
answered-exact (divides x y ∷ h) e =
    let s = both-ok (judge (divides x y)) (verdict h) e in
    exact-first (eqb (nat_abs y) 0) (eqb (nat_abs (rem_z x y)) 0) (exact h) s.0 (answered-exact h s.1)

pub answered-in-range : (h : List Event) → verdict h ≡ Ok tt → every in_range (numbers h) ≡ true
answered-in-range h e = in-range-true (every in_range (numbers h)) (sym (verdict-exact h (answered-exact h e)) ∙ e)

out-first : (t u : Bool) (v : Verdict) → result_and (range_verdict t) v ≡ Err OutOfRange → (v ≡ Err OutOfRange → u ≡ false) → cond t u false ≡ false
out-first true u v e f = f e
out-first false u v e f = refl

out-divides : (t s : Bool) (v : Verdict) → result_and (division_verdict t s) v ≡ Err OutOfRange → v ≡ Err OutOfRange
out-divides true s v e = absurd (omega (arith, ap number_of e))
out-divides false true v e = e
out-divides false false v e = absurd (omega (arith, ap number_of e))

pub out-of-range : (h : List Event) → verdict h ≡ Err OutOfRange → every in_range (numbers h) ≡ false
unfolding verdict numbers every
out-of-range [] e = absurd (omega (arith, ap number_of e))
out-of-range (forms z ∷ h) e = out-first (in_range z) (every in_range (numbers h)) (verdict h) e (out-of-range h)
out-of-range (divides x y ∷ h) e = out-of-range h (out-divides (eqb (nat_abs y) 0) (eqb (nat_abs (rem_z x y)) 0) (verdict h) e)
