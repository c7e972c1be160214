-- How long the texts of all pairs are, by how many lists there are: a multiplicity has at most 19 digits, and a part two. Assumes nothing.
use Rattle.std.proofs.Common.{Bool, true, false, cond, List, [], ◌∷◌, ◌++◌, ℕ, zero, suc, ◌+◌, ◌*◌, ◌/◌, ◌%◌, ◌^◌, ◌≤◌, ◌<◌, arith, le_trans, le_of_lt, le_refl, mul-le-mul, T, leb, ltb, leb→le, lit<, length, get_or, length-append, lt-ltb}
use Rattle.partitions.specs.Parts.{total, fact, lists, divide, runs, multiplicity}
use Rattle.partitions.specs.Count.{total_count}
use Rattle.partitions.proofs.Down.{Down, none, one}
use Rattle.partitions.proofs.Lists.{Every, nil, and, Is, sound}
use Rattle.partitions.proofs.Exact.{fact-most, divide-most}
use Rattle.partitions.proofs.Below.{below, below_at}
use Rattle.part_counts.proofs.Stirling.{count-below}
use Rattle.part_counts.proofs.Many.{most, lists-few}
use Rattle.parts_text.specs.Text.{digits, decimal, joined, newline, spaced, line, total_line, text}

-- ---- a number of at most d + 1 digits
unfoldable Short : ℕ → ℕ → Type 0
Short zero n = n < 10
Short (suc d) n = Short d (n / 10)

short-most : (d m n : ℕ) → m ≤ n → Short d n → Short d m
unfolding Short
short-most zero m n h s = omega arith
short-most (suc d) m n h s = short-most d (m / 10) (n / 10) (omega arith) s

-- one digit, or one more than a text has
one_more : (b : Bool) (d x y : ℕ) (t : List ℕ) → length t ≤ suc d → length (cond b (x ∷ []) (t ++ (y ∷ []))) ≤ suc (suc d)
one_more true d x y t h = omega arith
one_more false d x y t h = omega (arith, length-append t (y ∷ []))

digits-most : (d k n : ℕ) → Short d n → length (digits k n) ≤ suc d
unfolding Short digits
digits-most d zero n s = omega arith
digits-most zero (suc k) n s = rw (lt-ltb n 10 s) (omega arith)
digits-most (suc d) (suc k) n s = one_more (ltb n 10) d (48 + n) (48 + n % 10) (digits k (n / 10)) (digits-most d k (n / 10) s)

-- ---- a line
two_digits : (n : ℕ) → n ≤ 20 → Short 1 n
unfolding Short
two_digits n h = omega arith

parts-most : {m : ℕ} {l : List ℕ} → Down m l → m ≤ 20 → length (joined spaced l) ≤ 3 * length l
unfolding joined
parts-most none h = omega arith
parts-most (one {a = a} {l = l} g d) h =
    omega (arith, length-append (decimal (suc a)) (joined spaced l), digits-most 1 (suc a) (suc a) (two_digits (suc a) (omega arith)), parts-most d (omega arith))

-- 20! has 19 digits
short-20 : Short 18 (fact 20)
unfolding Short fact
short-20 = lit< tt

multiplicity-short : (l : List ℕ) → total l ≤ 20 → Short 18 (multiplicity l)
unfolding multiplicity
multiplicity-short l h =
    short-most 18 (multiplicity l) (fact 20)
    (le_trans (divide-most (divide (fact (total l)) l) (runs l)) (le_trans (divide-most (fact (total l)) l) (fact-most (total l) 20 h)))
    short-20

line-most : {k m n : ℕ} {l : List ℕ} → Is k m n l → m ≤ 20 → n ≤ 20 → length (line l) ≤ 20 + 3 * k
line-most {l = l} i h g =
    let c = multiplicity l in
    omega (arith, length-append (decimal c ++ joined spaced l) newline, length-append (decimal c) (joined spaced l), digits-most 18 c c (multiplicity-short l (omega (arith, i.sums))), parts-most i.down h, i.long)

lines-most : {k m n : ℕ} {ls : List (List ℕ)} → Every (Is k m n) ls → m ≤ 20 → n ≤ 20 → length (joined line ls) ≤ length ls * (20 + 3 * k)
unfolding joined
lines-most nil h g = omega arith
lines-most {k} (and {x = l} {xs = ls} i is) h g = omega (arith, length-append (line l) (joined line ls), line-most i h g, lines-most is h g)

-- ---- a text
short-53 : Short 15 (2 ^ 53)
unfolding Short
short-53 = lit< tt

total-most : (n : ℕ) → n < 2 ^ 53 → length (total_line n) ≤ 23
total-most n h = omega (arith, length-append (decimal n) newline, digits-most 15 n n (short-most 15 n (2 ^ 53) (le_of_lt h) short-53))

room : ℕ → Bool
room k = leb (get_or most k 0 * (20 + 3 * k) + 23) 4096

room-to-20 : T (below 21 room)
unfolding room most
room-to-20 = tt

pub text-fits : (n k : ℕ) → n ≤ 20 → k ≤ n → length (text (lists n k)) ≤ 4096
unfolding room
text-fits n k h g =
    let ls = lists n k in
    let few : length ls * (20 + 3 * k) ≤ get_or most k 0 * (20 + 3 * k) = mul-le-mul (lists-few n k h (omega arith)) (le_refl (20 + 3 * k)) in
    let has_room = leb→le (get_or most k 0 * (20 + 3 * k) + 23) 4096 (below_at 21 room room-to-20 k (omega arith)) in
    omega (arith, length-append (joined line ls) (total_line (total_count ls)), lines-most (sound k n n) h h, few, total-most (total_count ls) (count-below n k h g), has_room)
