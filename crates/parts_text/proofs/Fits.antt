-- What is printed fits the array, whatever was read. Assumes nothing.
use Rattle.std.proofs.Common.{◌≡◌, refl, Bool, true, false, cond, List, ℕ, ◌≤◌, ltb, eqb, lit≤, length, Result, Ok, Err}
use Rattle.partitions.specs.Parts.{lists}
use Rattle.refusals.specs.declared.Refusal.{Refusal}
use Rattle.refusals.specs.declared.Refusal.TheVariants.{OrderAbove20, NoPartList}
use Rattle.partitions.proofs.Walked.{range-of}
use Rattle.parts_text.specs.declared.Reading.{Reading}
use Rattle.parts_text.specs.declared.Reading.TheVariants.{Before, InOrder, AfterOrder, InLen, AfterLen, Malformed}
use Rattle.parts_text.specs.Text.{digits, refused_line, text, unless, answer}
use Rattle.parts_text.specs.Reading.{finished}
use Rattle.parts_text.proofs.Lengths.{text-fits}

-- the test of an order and a len
tested_by : Bool → Bool → Bool → Result (Unit {0}) Refusal
tested_by a b c = cond a (Err OrderAbove20) (cond b (Err NoPartList) (cond c (Err NoPartList) (Ok tt)))

-- a refusal's line, or a text that fits
fits : (a b c : Bool) (t : List ℕ) → (tested_by a b c ≡ Ok tt → length t ≤ 4096) → length (unless (tested_by a b c) t) ≤ 4096
unfolding digits tested_by
fits true b c t h = lit≤ tt
fits false true c t h = lit≤ tt
fits false false true t h = lit≤ tt
fits false false false t h = h refl

answer-fits : (order len : ℕ) → length (answer order len) ≤ 4096
unfolding answer tested_by
answer-fits order len =
    fits (ltb 20 order) (eqb len 0) (ltb order len) (text (lists order len)) (λ e. let h = range-of order len e in text-fits order len h.2 h.1)

malformed-fits : length (refused_line 2) ≤ 4096
unfolding digits
malformed-fits = lit≤ tt

pub finished-fits : (s : Reading) → length (finished s) ≤ 4096
finished-fits Before = malformed-fits
finished-fits (InOrder v) = malformed-fits
finished-fits (AfterOrder v) = malformed-fits
finished-fits (InLen v w) = answer-fits v w
finished-fits (AfterLen v w) = answer-fits v w
finished-fits Malformed = malformed-fits
