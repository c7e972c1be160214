-- What is answered is the verdict on all that was formed and divided, in the order of work, beside the integers' own values. For any entries
-- with their histories, and then for sums, differences, products and quotients of curves and surfaces. Assumes nothing.
use Rattle.std.proofs.Common.{◌≡◌, refl, sym, ap, ap₂, ◌∙◌, Bool, true, false, cond, List, [], ◌∷◌, ◌++◌, map, append_assoc, ℕ, zero, suc, ◌+◌, ◌≤◌, ◌<◌, not-suc-le-zero, le_of_suc-le-suc, zero-add, add-zero, add-suc, suc-add, arith, ℤ, pos}
use Rattle.std.specs.Prelude.{Result, Ok, Err}
use Rattle.std.specs.Result.{result_and}
use Rattle.refusals.specs.declared.Refusal.{Refusal}
use Rattle.refusals.specs.declared.Refusal.TheVariants.{OutOfRange}
use Rattle.whole.specs.Checked as checks
use Rattle.whole.specs.Checked.{Whole, in_range}
use Rattle.whole.specs.History.{Event, forms, Traced, Verdict, range_verdict, verdict, settle, bare, then, numbers, every, exact}
use Rattle.whole.proofs.History.{settle-answered, both-ok, verdict-append, verdict-parts, verdict-exact, exact-append, exact-then, exact_one, settle-bare, settle-plus, settle-minus, settle-times, settle-over, settle-of_nat}
use Rattle.calculus.specs.Kind.{Kind, regular, plain}
use Rattle.calculus.specs.Array.{listed}
use Rattle.calculus.specs.Curve
use Rattle.calculus.specs.Surface
use Rattle.calculus.proofs.Related.{Related, RelatedModules, regulars, CurvesAlike, SurfacesAlike}
use Rattle.calculus.proofs.Alike.{sum_alike, difference-alike, product-alike, quotient-alike, surface-sum-alike, surface-difference-alike, surface-product-alike, surface-quotient-alike}
use Rattle.exact.specs.declared.SurfaceDerivatives.{SurfaceDerivatives}
use Rattle.exact_formulas.specs.Kinds.{checked, traced}
use Rattle.calculus.specs.Order.{rows, curve_entries, surface_entries}
use Rattle.exact_formulas.specs.Entries.{value_of, unless_refused}
use Rattle.exact.specs.Names.{answered_curve, answered_surface}
use Rattle.exact.specs.Answer.{curve_answer, surface_answer}
use Rattle.exact.specs.Judged.{histories, judged_curve, judged_surface}
use Rattle.exact_formulas.proofs.Work.{map-listed, map_rows}
use Rattle.exact.proofs.Same.{curve-same, surface-same, curve-answer-same, surface-answer-same}

-- ---- what a number with its history is to a checked one, and to an integer
abbrev pub Settled : Traced → Whole → Type 0
Settled t w = settle t ≡ w

abbrev pub Valued : Traced → ℤ → Type 0
Valued t z = t.value ≡ z

pub settled : Related Settled traced checked
settled = record {
  zero = settle-bare (pos 0);
  one = settle-bare (pos 1);
  plus = λ a c b d p q. settle-plus a c ∙ ap₂ checks.plus p q;
  minus = λ a c b d p q. settle-minus a c ∙ ap₂ checks.minus p q;
  times = λ a c b d p q. settle-times a c ∙ ap₂ checks.times p q;
  over = λ a c b d p q. settle-over a c ∙ ap₂ checks.over p q;
  of_nat = settle-of_nat;
}

pub valued : Related Valued traced plain
valued = record {
  zero = refl;
  one = refl;
  plus = λ a c b d p q. ap₂ plain.plus p q;
  minus = λ a c b d p q. ap₂ plain.minus p q;
  times = λ a c b d p q. ap₂ plain.times p q;
  over = λ a c b d p q. ap₂ plain.over p q;
  of_nat = λ n. refl;
}

-- the value is the integer, and every division that was taken is exact: kept by every operation but the division
abbrev pub Sound : Traced → ℤ → Type 0
Sound t z = (t.value ≡ z) × (exact t.history ≡ true)

pub exact_none : exact [] ≡ true
unfolding exact
exact_none = refl

sound-by : (f : ℤ → ℤ → ℤ) (s t : Traced) (x y : ℤ) → Sound s x → Sound t y → Sound (then f (λ x y. forms (f x y) ∷ []) s t) (f x y)
sound-by f s t x y p q = (ap₂ f p.0 q.0, exact-then f (λ x y. forms (f x y) ∷ []) s t p.1 q.1 (exact_one (f s.value t.value)))

abbrev undivided : {A : Type 0} → Kind A → Kind A
undivided K = record { zero = K.zero; one = K.one; plus = K.plus; minus = K.minus; times = K.times; over = K.times; of_nat = K.of_nat }

pub sound : Related Sound (undivided traced) (undivided plain)
sound = record {
  zero = (refl, exact_none);
  one = (refl, exact_none);
  plus = sound-by plain.plus;
  minus = sound-by plain.minus;
  times = sound-by plain.times;
  over = sound-by plain.times;
  of_nat = λ n. (refl, exact_one (pos n));
}

pub sound_module : RelatedModules Sound Sound (regular traced) (regular plain)
sound_module = record {
  zero = sound.zero;
  plus = sound.plus;
  minus = sound.minus;
  scale = sound.times;
  one = sound.one;
  times = sound.times;
  of_nat = sound.of_nat;
}

-- ---- a list of entries: the first refusal is the verdict on their histories
module _ {A : Type 0} (a : Result A Refusal) where
  one_more : (v w : Verdict) (z : ℤ) → result_and (result_and v (Ok z)) (result_and w a) ≡ result_and (result_and v w) a
  one_more (Ok x) w z = refl
  one_more (Err c) w z = refl

  first-refused : (ts : List Traced) → unless_refused (map settle ts) a ≡ result_and (verdict (histories ts)) a
  unfolding unless_refused histories verdict
  first-refused [] = refl
  first-refused (t ∷ ts) =
      ap (result_and (settle t)) (first-refused ts)
      ∙ one_more (verdict t.history) (verdict (histories ts)) t.value
      ∙ ap (λ (v : Verdict). result_and v a) (sym (verdict-append t.history (histories ts)))

-- ---- where nothing is refused, nothing is on each entry
listed-verdict : (g : ℕ → Traced) (i n : ℕ) → verdict (histories (listed g i n)) ≡ Ok tt → (x : ℕ) → x < n → verdict (g (i + x)).history ≡ Ok tt
unfolding listed histories
listed-verdict g i zero e x l = absurd (not-suc-le-zero l)
listed-verdict g i (suc n) e zero l = rw (add-zero i) (verdict-parts (g i).history (histories (listed g (suc i) n)) e).0
listed-verdict g i (suc n) e (suc x) l =
    rw (add-suc i x, ← (suc-add i x)) (listed-verdict g (suc i) n (verdict-parts (g i).history (histories (listed g (suc i) n)) e).1 x (le_of_suc-le-suc l))

histories-append : (s t : List Traced) → histories (s ++ t) ≡ histories s ++ histories t
unfolding histories
histories-append [] t = refl
histories-append (x ∷ s) t = ap (λ (l : List Event). x.history ++ l) (histories-append s t) ∙ sym (append_assoc x.history (histories s) (histories t))

row-verdict : (g : ℕ → ℕ → Traced) (i k : ℕ) → verdict (histories (listed (g i) 0 (suc k) ++ rows g (suc i) k)) ≡ Ok tt →
    (verdict (histories (listed (g i) 0 (suc k))) ≡ Ok tt) × (verdict (histories (rows g (suc i) k)) ≡ Ok tt)
row-verdict g i k e =
    verdict-parts (histories (listed (g i) 0 (suc k))) (histories (rows g (suc i) k))
    (ap verdict (sym (histories-append (listed (g i) 0 (suc k)) (rows g (suc i) k))) ∙ e)

rows-verdict : (g : ℕ → ℕ → Traced) (i k : ℕ) → verdict (histories (rows g i k)) ≡ Ok tt → (x y : ℕ) → x + y < k → verdict (g (i + x) y).history ≡ Ok tt
unfolding rows
rows-verdict g i zero e x y l = absurd (not-suc-le-zero l)
rows-verdict g i (suc k) e zero y l = rw (add-zero i, ← (zero-add y)) (listed-verdict (g i) 0 (suc k) (row-verdict g i k e).0 y (omega arith))
rows-verdict g i (suc k) e (suc x) y l = rw (add-suc i x, ← (suc-add i x)) (rows-verdict g (suc i) k (row-verdict g i k e).1 x y (omega arith))

curve-verdict : (g : ℕ → Traced) (n : ℕ) → verdict (histories (curve_entries g n)) ≡ Ok tt → (m : ℕ) → m ≤ n → verdict (g m).history ≡ Ok tt
curve-verdict g n e m l = rw (← (zero-add m)) (listed-verdict g 0 (suc n) e m (omega arith))

surface-verdict : (g : ℕ → ℕ → Traced) (n : ℕ) → verdict (histories (surface_entries g n)) ≡ Ok tt → (i j : ℕ) → i + j ≤ n → verdict (g i j).history ≡ Ok tt
surface-verdict g n e i j l = rw (← (zero-add i)) (rows-verdict g 0 (suc n) e i j (omega arith))

number_of : (t : Traced) → verdict t.history ≡ Ok tt → value_of (settle t) ≡ t.value
number_of t e = ap value_of (settle-answered t e)

-- answers that agree where nothing is refused
where-answered : {A : Type 0} (v w : Verdict) (a b : Result A Refusal) → v ≡ w → (w ≡ Ok tt → a ≡ b) → result_and v a ≡ result_and w b
where-answered v (Ok tt) a b e h = rw e (h refl)
where-answered v (Err c) a b e h = rw e

-- ---- any entries with their histories
pub curve-judged : (n : ℕ) (f : ℕ → Whole) (g : ℕ → Traced) (a : ℕ → ℤ) → ((m : ℕ) → m ≤ n → Settled (g m) (f m)) → ((m : ℕ) → m ≤ n → Valued (g m) (a m)) →
    curve_answer f n ≡ judged_curve g a n
curve-judged n f g a s v =
    sym (curve-answer-same n s)
    ∙ ap (λ (l : List Whole). unless_refused l (answered_curve n (λ m. value_of (settle (g m))))) (sym (map-listed settle g 0 (suc n)))
    ∙ first-refused (answered_curve n (λ m. value_of (settle (g m)))) (curve_entries g n)
    ∙ where-answered _ (verdict (histories (curve_entries g n))) _ _ refl
    (λ e. curve-same n (λ m l. number_of (g m) (curve-verdict g n e m l) ∙ v m l))

pub surface-judged : (n : ℕ) (f : ℕ → ℕ → Whole) (g : ℕ → ℕ → Traced) (a : ℕ → ℕ → ℤ) → ((i j : ℕ) → i + j ≤ n → Settled (g i j) (f i j)) →
    ((i j : ℕ) → i + j ≤ n → Valued (g i j) (a i j)) → surface_answer f n ≡ judged_surface g a n
surface-judged n f g a s v =
    sym (surface-answer-same n s)
    ∙ ap (λ (l : List Whole). unless_refused l (answered_surface n (λ i j. value_of (settle (g i j))))) (sym (map_rows settle g 0 (suc n)))
    ∙ first-refused (answered_surface n (λ i j. value_of (settle (g i j)))) (surface_entries g n)
    ∙ where-answered _ (verdict (histories (surface_entries g n))) _ _ refl
    (λ e. surface-same n (λ i j l. number_of (g i j) (surface-verdict g n e i j l) ∙ v i j l))

-- ---- entries whose divisions are all exact: the integers' own values, or the refusal where a number that is formed is out of range
exact-listed : (g : ℕ → Traced) (i n : ℕ) → ((x : ℕ) → x < n → exact (g (i + x)).history ≡ true) → exact (histories (listed g i n)) ≡ true
unfolding listed histories exact
exact-listed g i zero h = refl
exact-listed g i (suc n) h =
    exact-append (g i).history (histories (listed g (suc i) n))
    ∙ ap₂ (λ (x y : Bool). cond x y false) (rw (add-zero i) at (h 0 (omega arith)))
    (exact-listed g (suc i) n (λ x l. rw (suc-add i x, ← (add-suc i x)) (h (suc x) (omega arith))))

in-or-out : {A : Type 0} (a : Result A Refusal) (b : Bool) → result_and (range_verdict b) a ≡ cond b a (Err OutOfRange)
in-or-out a true = refl
in-or-out a false = refl

pub curve-exact : (n : ℕ) (f : ℕ → Whole) (g : ℕ → Traced) (a : ℕ → ℤ) → ((m : ℕ) → m ≤ n → Settled (g m) (f m)) → ((m : ℕ) → m ≤ n → Sound (g m) (a m)) →
    curve_answer f n ≡ cond (every in_range (numbers (histories (curve_entries g n)))) (answered_curve n a) (Err OutOfRange)
curve-exact n f g a s v =
    curve-judged n f g a s (λ m l. (v m l).0)
    ∙ ap (λ (w : Verdict). result_and w (answered_curve n a))
    (verdict-exact (histories (curve_entries g n)) (exact-listed g 0 (suc n) (λ x l. (v (0 + x) (omega arith)).1)))
    ∙ in-or-out (answered_curve n a) (every in_range (numbers (histories (curve_entries g n))))

-- ---- where a surface is answered, no entry was refused
pub surface-answered : (n : ℕ) (f : ℕ → ℕ → Whole) (g : ℕ → ℕ → Traced) (a : ℕ → ℕ → ℤ) → ((i j : ℕ) → i + j ≤ n → Settled (g i j) (f i j)) →
    ((i j : ℕ) → i + j ≤ n → Valued (g i j) (a i j)) → {s : SurfaceDerivatives} → surface_answer f n ≡ Ok s →
    (surface_answer f n ≡ answered_surface n a) × ((i j : ℕ) → i + j ≤ n → verdict (g i j).history ≡ Ok tt)
surface-answered n f g a s v e =
    let is = surface-judged n f g a s v in
    let w : verdict (histories (surface_entries g n)) ≡ Ok tt = (both-ok (verdict (histories (surface_entries g n))) (answered_surface n a) (sym is ∙ e)).0 in
    (is ∙ ap (λ (x : Verdict). result_and x (answered_surface n a)) w, surface-verdict g n w)

-- ---- a formula that keeps what the kinds' operations keep, on jets of given numbers
module _ (n : ℕ) (f : (A : Type 0) → Kind A → (ℕ → A) → (ℕ → A) → ℕ → A)
    (alike : (A B : Type 0) (R : A → B → Type 0) (K : Kind A) (L : Kind B) → Related R K L → (a c : ℕ → A) (b d : ℕ → B) →
    CurvesAlike R n a b → CurvesAlike R n c d → CurvesAlike R n (f A K a c) (f B L b d)) (a b : ℕ → ℤ) where
  formula-judged : curve_answer (f Whole checked (λ m. Ok (a m)) (λ m. Ok (b m))) n ≡ judged_curve (f Traced traced (λ m. bare (a m)) (λ m. bare (b m))) (f ℤ plain a b) n
  formula-judged =
      curve-judged n _ (f Traced traced (λ m. bare (a m)) (λ m. bare (b m))) _
      (alike Traced Whole Settled traced checked settled _ _ (λ m. Ok (a m)) (λ m. Ok (b m)) (λ m l. settle-bare (a m)) (λ m l. settle-bare (b m)))
      (alike Traced ℤ Valued traced plain valued _ _ a b (λ m l. refl) (λ m l. refl))

module _ (n : ℕ) (f : (A : Type 0) → Kind A → (ℕ → ℕ → A) → (ℕ → ℕ → A) → ℕ → ℕ → A)
    (alike : (A B : Type 0) (R : A → B → Type 0) (K : Kind A) (L : Kind B) → Related R K L → (a c : ℕ → ℕ → A) (b d : ℕ → ℕ → B) →
    SurfacesAlike R n a b → SurfacesAlike R n c d → SurfacesAlike R n (f A K a c) (f B L b d)) (a b : ℕ → ℕ → ℤ) where
  surface-formula-judged : surface_answer (f Whole checked (λ i j. Ok (a i j)) (λ i j. Ok (b i j))) n
      ≡ judged_surface (f Traced traced (λ i j. bare (a i j)) (λ i j. bare (b i j))) (f ℤ plain a b) n
  surface-formula-judged =
      surface-judged n _ (f Traced traced (λ i j. bare (a i j)) (λ i j. bare (b i j))) _
      (alike Traced Whole Settled traced checked settled _ _ (λ i j. Ok (a i j)) (λ i j. Ok (b i j)) (λ i j l. settle-bare (a i j)) (λ i j l. settle-bare (b i j)))
      (alike Traced ℤ Valued traced plain valued _ _ a b (λ i j l. refl) (λ i j l. refl))

module _ (a b : ℕ → ℤ) (n : ℕ) where
  pub sum-judged : curve_answer (Curve.sum (regular checked) (λ m. Ok (a m)) (λ m. Ok (b m))) n
      ≡ judged_curve (Curve.sum (regular traced) (λ m. bare (a m)) (λ m. bare (b m))) (Curve.sum (regular plain) a b) n
  sum-judged = formula-judged n (λ A K. Curve.sum (regular K)) (λ A B R K L r a c b d p q. sum_alike R R (regular K) (regular L) (regulars r) n p q) a b

  pub difference-judged : curve_answer (Curve.difference (regular checked) (λ m. Ok (a m)) (λ m. Ok (b m))) n
      ≡ judged_curve (Curve.difference (regular traced) (λ m. bare (a m)) (λ m. bare (b m))) (Curve.difference (regular plain) a b) n
  difference-judged = formula-judged n (λ A K. Curve.difference (regular K)) (λ A B R K L r a c b d p q. difference-alike R R (regular K) (regular L) (regulars r) n p q) a b

  pub product-judged : curve_answer (Curve.product checked (λ m. Ok (a m)) (λ m. Ok (b m))) n
      ≡ judged_curve (Curve.product traced (λ m. bare (a m)) (λ m. bare (b m))) (Curve.product plain a b) n
  product-judged = formula-judged n (λ A K. Curve.product K) (λ A B R K L r. product-alike R K L r n) a b

  pub quotient-judged : curve_answer (Curve.quotient checked (λ m. Ok (a m)) (λ m. Ok (b m))) n
      ≡ judged_curve (Curve.quotient traced (λ m. bare (a m)) (λ m. bare (b m))) (Curve.quotient plain a b) n
  quotient-judged = formula-judged n (λ A K. Curve.quotient K) (λ A B R K L r. quotient-alike R K L r n) a b

module _ (a b : ℕ → ℕ → ℤ) (n : ℕ) where
  pub surface-sum-judged : surface_answer (Surface.sum (regular checked) (λ i j. Ok (a i j)) (λ i j. Ok (b i j))) n
      ≡ judged_surface (Surface.sum (regular traced) (λ i j. bare (a i j)) (λ i j. bare (b i j))) (Surface.sum (regular plain) a b) n
  surface-sum-judged = surface-formula-judged n (λ A K. Surface.sum (regular K)) (λ A B R K L r a c b d p q. surface-sum-alike R R (regular K) (regular L) (regulars r) n p q) a b

  pub surface-difference-judged : surface_answer (Surface.difference (regular checked) (λ i j. Ok (a i j)) (λ i j. Ok (b i j))) n
      ≡ judged_surface (Surface.difference (regular traced) (λ i j. bare (a i j)) (λ i j. bare (b i j))) (Surface.difference (regular plain) a b) n
  surface-difference-judged = surface-formula-judged n (λ A K. Surface.difference (regular K)) (λ A B R K L r a c b d p q. surface-difference-alike R R (regular K) (regular L) (regulars r) n p q) a b

  pub surface-product-judged : surface_answer (Surface.product checked (λ i j. Ok (a i j)) (λ i j. Ok (b i j))) n
      ≡ judged_surface (Surface.product traced (λ i j. bare (a i j)) (λ i j. bare (b i j))) (Surface.product plain a b) n
  surface-product-judged = surface-formula-judged n (λ A K. Surface.product K) (λ A B R K L r. surface-product-alike R K L r n) a b

  pub surface-quotient-judged : surface_answer (Surface.quotient checked (λ i j. Ok (a i j)) (λ i j. Ok (b i j))) n
      ≡ judged_surface (Surface.quotient traced (λ i j. bare (a i j)) (λ i j. bare (b i j))) (Surface.quotient plain a b) n
  surface-quotient-judged = surface-formula-judged n (λ A K. Surface.quotient K) (λ A B R K L r. surface-quotient-alike R K L r n) a b
