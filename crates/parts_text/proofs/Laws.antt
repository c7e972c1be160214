-- What a reading says at the end of the input is what is printed for the whole input, in however many pieces it was fed. Assumes nothing.
use Rattle.std.proofs.Common.{◌≡◌, refl, ◌∙◌, ap, ap₂, sym, List, [], ◌∷◌, ◌++◌, append_assoc, append-nil, ℕ, zero, suc, ◌+◌, ◌*◌, ◌/◌, ◌%◌, ◌<◌, ◌≤◌, min, arith, lt-ltb, le-ltb, le-leb, ne_eqb}
use mathlib.Core.Option.{Option, some, none}
use native.Mathlib.Decide.{dec_le}
use Rattle.parts_text.specs.declared.input.Kind.{Kind}
use Rattle.parts_text.specs.declared.input.Kind.TheVariants.{Digit, Separator, Other}
use Rattle.parts_text.specs.declared.Reading.{Reading}
use Rattle.parts_text.specs.declared.Reading.TheVariants.{Before, InOrder, AfterOrder, InLen, AfterLen, Malformed}
use Rattle.parts_text.specs.Text.{decimal, answer, refused_line}
use Rattle.parts_text.specs.Printed.{kind, grown, before, spell, numbers, said, printed}
use Rattle.parts_text.specs.Reading.{capped, step, fed, finished}
use Rattle.parts_text.proofs.Fed.{fed-append}
use Rattle.parts_text.proofs.Puts.{decimal-one, decimal-more}

-- ---- numbers above 20 behave alike
pub either : {C : Type 0} (a b : ℕ) → (a ≤ b → C) → (b < a → C) → C
either a b f g = elim (dec_le a b) [ yes h ↦ f h | no h ↦ g (omega arith) ]

order-above : (a b : ℕ) → 20 < a → answer a b ≡ refused_line 1
unfolding answer
order-above a b h = rw (lt-ltb 20 a h)

len-above : (a b : ℕ) → a ≤ 20 → 20 < b → answer a b ≡ refused_line 3
unfolding answer
len-above a b h k = rw (le-ltb 20 a h, ne_eqb b 0 (omega arith), lt-ltb a b (omega arith))

low : (n : ℕ) → n ≤ 20 → min n 21 ≡ n
low n h = omega arith

high : (n : ℕ) → 20 < n → 20 < min n 21
high n h = omega arith

pub answer-capped : (a b : ℕ) → answer (min a 21) (min b 21) ≡ answer a b
answer-capped a b =
    either a 20
    (λ h. either b 20
    (λ k. ap₂ answer (low a h) (low b k))
    (λ k. ap (λ (n : ℕ). answer n (min b 21)) (low a h) ∙ len-above a (min b 21) h (high b k) ∙ sym (len-above a b h k)))
    (λ h. order-above (min a 21) (min b 21) (high a h) ∙ sym (order-above a b h))

first-digit : (d : ℕ) → capped 0 d ≡ min d 21
first-digit d = omega arith

next-digit : (v d : ℕ) → capped (min v 21) d ≡ min (10 * v + d) 21
next-digit v d = omega arith

-- ---- f says what is printed where the input ends after some bytes more, and n spells the numbers of those bytes
record Says (f : Reading → List ℕ) (n : Option ℕ → Option (List ℕ)) : Type 0 where
  nothing : f Before ≡ said (n none)
  in_order : (v : ℕ) → f (InOrder (min v 21)) ≡ said (n (some v))
  after-order : (v : ℕ) → f (AfterOrder (min v 21)) ≡ said (before (some v) (n none))
  in_len : (v w : ℕ) → f (InLen (min v 21) (min w 21)) ≡ said (before (some v) (n (some w)))
  after-len : (v w : ℕ) → f (AfterLen (min v 21) (min w 21)) ≡ said (before (some v) (before (some w) (n none)))
  third : (v w u : ℕ) → said (before (some v) (before (some w) (n (some u)))) ≡ refused_line 2
  malformed : f Malformed ≡ refused_line 2

three : (v w u : ℕ) (o : Option (List ℕ)) → said (before (some v) (before (some w) (before (some u) o))) ≡ refused_line 2
three v w u none = refl
three v w u (some l) = refl

says-end : Says finished (λ u. before u (some []))
says-end = record {
  nothing = refl;
  in_order = λ v. refl;
  after-order = λ v. refl;
  in_len = λ v w. answer-capped v w;
  after-len = λ v w. answer-capped v w;
  third = λ v w u. refl;
  malformed = refl;
}

module _ (f : Reading → List ℕ) (n : Option ℕ → Option (List ℕ)) (h : Says f n) where
  says-more : (k : Kind) → Says (λ s. f (step s k)) (λ u. spell u k n)
  says-more (Digit d) = record {
    nothing = ap (λ (m : ℕ). f (InOrder m)) (first-digit d) ∙ h.in_order d;
    in_order = λ v. ap (λ (m : ℕ). f (InOrder m)) (next-digit v d) ∙ h.in_order (10 * v + d);
    after-order = λ v. ap (λ (m : ℕ). f (InLen (min v 21) m)) (first-digit d) ∙ h.in_len v d;
    in_len = λ v w. ap (λ (m : ℕ). f (InLen (min v 21) m)) (next-digit w d) ∙ h.in_len v (10 * w + d);
    after-len = λ v w. h.malformed ∙ sym (h.third v w d);
    third = λ v w u. h.third v w (10 * u + d);
    malformed = h.malformed;
  }
  says-more Separator = record {
    nothing = h.nothing;
    in_order = h.after-order;
    after-order = h.after-order;
    in_len = h.after-len;
    after-len = h.after-len;
    third = λ v w u. three v w u (n none);
    malformed = h.malformed;
  }
  says-more Other = record {
    nothing = h.malformed;
    in_order = λ v. h.malformed;
    after-order = λ v. h.malformed;
    in_len = λ v w. h.malformed;
    after-len = λ v w. h.malformed;
    third = λ v w u. refl;
    malformed = h.malformed;
  }

says : (bs : List ℕ) → Says (λ s. finished (fed s bs)) (λ u. numbers u bs)
unfolding fed numbers
says [] = says-end
says (b ∷ bs) = says-more (λ s. finished (fed s bs)) (λ u. numbers u bs) (says bs) (kind b)

-- the whole input, read byte by byte, says what is printed
pub read_whole : (input : List ℕ) → finished (fed Before input) ≡ printed input
unfolding printed
read_whole input = (says input).nothing

-- in two pieces
pub read-pieces : (a b : List ℕ) → finished (fed (fed Before a) b) ≡ printed (a ++ b)
read-pieces a b = ap finished (sym (fed-append Before a b)) ∙ read_whole (a ++ b)

-- ---- what is printed of a number reads back as that number
digit-kind : (d : ℕ) → d < 10 → kind (48 + d) ≡ Digit d
digit-kind d h = rw (le-ltb (48 + d) 48 (omega arith), le-leb (48 + d) 57 (omega arith)) (ap Digit (omega arith))

one-digit : (u : Option ℕ) (d : ℕ) (rest : List ℕ) → d < 10 → numbers u ((48 + d) ∷ rest) ≡ numbers (some (grown u d)) rest
unfolding numbers
one-digit u d rest h = ap (λ (k : Kind). spell u k (λ w. numbers w rest)) (digit-kind d h)

digits-read : (k n : ℕ) (rest : List ℕ) → n ≤ k → numbers none (decimal n ++ rest) ≡ numbers (some n) rest
digits-read zero n rest h = rw (decimal-one n (omega arith)) (one-digit none n rest (omega arith))
digits-read (suc k) n rest h =
    either n 9
    (λ g. rw (decimal-one n (omega arith)) (one-digit none n rest (omega arith)))
    (λ g. ap (λ (t : List ℕ). numbers none (t ++ rest)) (decimal-more n (omega arith))
    ∙ ap (numbers none) (append_assoc (decimal (n / 10)) ((48 + n % 10) ∷ []) rest)
    ∙ digits-read k (n / 10) ((48 + n % 10) ∷ rest) (omega arith)
    ∙ one-digit (some (n / 10)) (n % 10) rest (omega arith)
    ∙ ap (λ (m : ℕ). numbers (some m) rest) (omega arith))

pub read_back : (n : ℕ) → numbers none (decimal n) ≡ some (n ∷ [])
unfolding numbers
read_back n = ap (numbers none) (sym (append-nil (decimal n))) ∙ digits-read n n [] (omega arith)
