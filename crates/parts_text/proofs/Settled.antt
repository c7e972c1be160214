-- When the answer is settled, and no more of the input need be read: where the input is malformed, and nowhere else. Assumes nothing.
use Rattle.std.proofs.Common.{◌≡◌, refl, ◌∙◌, ap, sym, Bool, true, false, cond, true≢false, List, [], ◌∷◌, ◌++◌, ℕ, zero, suc, ◌+◌, ◌/◌, ◌%◌, ◌<◌, ◌≤◌, arith, ltb, eqb, get_or, Ok, Err}
use Rattle.refusals.specs.declared.Refusal.TheVariants.{OrderAbove20, NoPartList}
use Rattle.partitions.specs.Parts.{lists, multiplicity}
use Rattle.partitions.specs.Count.{total_count}
use Rattle.parts_text.specs.declared.input.Kind.{Kind}
use Rattle.parts_text.specs.declared.input.Kind.TheVariants.{Digit, Separator, Other}
use Rattle.parts_text.specs.declared.Reading.{Reading}
use Rattle.parts_text.specs.declared.Reading.TheVariants.{Before, InOrder, AfterOrder, InLen, AfterLen, Malformed}
use Rattle.parts_text.specs.Text.{digits, decimal, joined, spaced, newline, line, total_line, refused_line, text, unless, answer}
use Rattle.parts_text.specs.Printed.{kind, printed}
use Rattle.parts_text.specs.Reading.{step, fed, finished, settled}
use Rattle.parts_text.proofs.Laws.{either, read-pieces}
use Rattle.parts_text.proofs.Puts.{decimal-one, decimal-more}

-- ---- what is malformed stays so
stays : (k : Kind) → step Malformed k ≡ Malformed
stays (Digit d) = refl
stays Separator = refl
stays Other = refl

fed-malformed : (rest : List ℕ) → fed Malformed rest ≡ Malformed
unfolding fed
fed-malformed [] = refl
fed-malformed (b ∷ rest) = ap (λ (s : Reading). fed s rest) (stays (kind b)) ∙ fed-malformed rest

-- whatever follows a settled reading, `refused 2` is printed
pub settled_says : (s : Reading) → settled s ≡ true → (rest : List ℕ) → finished (fed s rest) ≡ refused_line 2
settled_says Before e rest = absurd (true≢false (sym e))
settled_says (InOrder v) e rest = absurd (true≢false (sym e))
settled_says (AfterOrder v) e rest = absurd (true≢false (sym e))
settled_says (InLen v w) e rest = absurd (true≢false (sym e))
settled_says (AfterLen v w) e rest = absurd (true≢false (sym e))
settled_says Malformed e rest = ap finished (fed-malformed rest)

-- ---- two numbers are never refused 2
-- a text whose first byte is at most a `9`: it begins with no letter
record NoWord (t : List ℕ) : Type 0 where
  some_byte : 0 < get_or t 0 0
  low : get_or t 0 0 ≤ 57

no-word-on : (t u : List ℕ) → NoWord t → NoWord (t ++ u)
no-word-on [] u c = let z : ⊥ = omega (arith, c.some_byte) in absurd z
no-word-on (b ∷ t) u c = record { some_byte = c.some_byte; low = c.low }

decimal-no-word : (k n : ℕ) → n ≤ k → NoWord (decimal n)
decimal-no-word zero n h = rw (decimal-one n (omega arith)) (record { some_byte = omega arith; low = omega arith })
decimal-no-word (suc k) n h =
    either n 9
    (λ g. rw (decimal-one n (omega arith)) (record { some_byte = omega arith; low = omega arith }))
    (λ g. rw (decimal-more n (omega arith)) (no-word-on (decimal (n / 10)) ((48 + n % 10) ∷ []) (decimal-no-word k (n / 10) (omega arith))))

no-refusal : (t : List ℕ) → NoWord t → ¬ (t ≡ refused_line 2)
no-refusal t c e = let f = ap (λ (l : List ℕ). get_or l 0 0) e in omega (arith, c.low)

text-no-2 : (ls : List (List ℕ)) → ¬ (text ls ≡ refused_line 2)
unfolding joined
text-no-2 [] e = let f : ◌≡◌ {A = ℕ} 116 114 = ap (λ (l : List ℕ). get_or l 0 0) e in omega arith
text-no-2 (l ∷ ls) e =
    let n = multiplicity l in
    let c = no-word-on (decimal n ++ joined spaced l) newline (no-word-on (decimal n) (joined spaced l) (decimal-no-word n n (omega arith))) in
    no-refusal (text (l ∷ ls)) (no-word-on (line l ++ joined line ls) (total_line (total_count (l ∷ ls))) (no-word-on (line l) (joined line ls) c)) e

other-no-2 : (a b c : Bool) (t : List ℕ) → ¬ (t ≡ refused_line 2) → ¬ (unless (cond a (Err OrderAbove20) (cond b (Err NoPartList) (cond c (Err NoPartList) (Ok tt)))) t ≡ refused_line 2)
unfolding digits
other-no-2 true b c t h e = let f : ◌≡◌ {A = ℕ} 49 50 = ap (λ (l : List ℕ). get_or l 8 0) e in omega arith
other-no-2 false true c t h e = let f : ◌≡◌ {A = ℕ} 51 50 = ap (λ (l : List ℕ). get_or l 8 0) e in omega arith
other-no-2 false false true t h e = let f : ◌≡◌ {A = ℕ} 51 50 = ap (λ (l : List ℕ). get_or l 8 0) e in omega arith
other-no-2 false false false t h e = h e

pub answer-no-2 : (order len : ℕ) → ¬ (answer order len ≡ refused_line 2)
unfolding answer
answer-no-2 order len = other-no-2 (ltb 20 order) (eqb len 0) (ltb order len) (text (lists order len)) (text-no-2 (lists order len))

-- ---- any other reading may still become a pair, or malformed: `0 0` or what is left of it, and `x`
pair : Reading → List ℕ
pair Before = 48 ∷ 32 ∷ 48 ∷ []
pair (InOrder v) = 32 ∷ 48 ∷ []
pair (AfterOrder v) = 48 ∷ []
pair (InLen v w) = []
pair (AfterLen v w) = []
pair Malformed = []

no-pair : List ℕ
no-pair = 120 ∷ []

-- two ways to go on from a reading that is not settled, after which different texts are printed
pub open-says : (s : Reading) → settled s ≡ false → (a : List ℕ) × (b : List ℕ) × ¬ (finished (fed s a) ≡ finished (fed s b))
unfolding fed pair no-pair
open-says s e = (pair s, no-pair, differ s e)
  where
    differ : (s : Reading) → settled s ≡ false → ¬ (finished (fed s (pair s)) ≡ finished (fed s no-pair))
    differ Before e = answer-no-2 0 0
    differ (InOrder v) e = answer-no-2 v 0
    differ (AfterOrder v) e = answer-no-2 v 0
    differ (InLen v w) e = answer-no-2 v w
    differ (AfterLen v w) e = answer-no-2 v w
    differ Malformed e = absurd (true≢false e)

-- ---- inputs
-- where the reading of some bytes is settled, what it says is what is printed for every input that begins with them
pub stop-there : (read rest : List ℕ) → settled (fed Before read) ≡ true → finished (fed Before read) ≡ printed (read ++ rest)
unfolding fed
stop-there read rest e =
    settled_says (fed Before read) e [] ∙ sym (settled_says (fed Before read) e rest) ∙ read-pieces read rest

-- where it is not, two inputs that begin with them are answered differently
pub read-on : (read : List ℕ) → settled (fed Before read) ≡ false → (a : List ℕ) × (b : List ℕ) × ¬ (printed (read ++ a) ≡ printed (read ++ b))
read-on read e =
    let o = open-says (fed Before read) e in
    (o.0, o.1, λ h. o.2 (read-pieces read o.0 ∙ h ∙ sym (read-pieces read o.1)))
