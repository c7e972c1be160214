-- The text of the part lists of an order and a len, as ASCII bytes: numbers, lines, the last line, and a refusal. Assumes nothing.
use Rattle.std.specs.Prelude.{cond, List, [], ◌∷◌, ◌++◌, ℕ, zero, suc, ◌+◌, ◌/◌, ◌%◌, ltb, Result, Ok, Err}
use Rattle.refusals.specs.declared.Refusal.{Refusal}
use Rattle.refusals.specs.Number.{number}
use Rattle.partitions.specs.Parts.{lists, multiplicity}
use Rattle.partitions.specs.Count.{total_count}
use Rattle.partitions.specs.Walk.{tested}

-- the decimal digits of n, as few as show it, where they are at most k + 1
unfoldable pub digits : ℕ → ℕ → List ℕ
digits zero n = (48 + n) ∷ []
digits (suc k) n = let more = digits k (n / 10) ++ ((48 + n % 10) ∷ []) in cond (ltb n 10) ((48 + n) ∷ []) more

abbrev pub decimal : ℕ → List ℕ
decimal n = digits n n

-- the texts of some things, one after the other
unfoldable pub joined : {A : Type 0} → (A → List ℕ) → List A → List ℕ
joined f [] = []
joined f (a ∷ l) = f a ++ joined f l

abbrev pub newline : List ℕ
newline = 10 ∷ []

-- a space, and the part
abbrev pub spaced : ℕ → List ℕ
spaced a = 32 ∷ decimal a

-- the multiplicity, then the parts, separated by one space
abbrev pub line : List ℕ → List ℕ
line l = decimal (multiplicity l) ++ joined spaced l ++ newline

-- a word, a space, and a number
abbrev pub last_line : List ℕ → ℕ → List ℕ
last_line word n = word ++ spaced n ++ newline

-- `total`, and the total
abbrev pub total_line : ℕ → List ℕ
total_line = last_line (116 ∷ 111 ∷ 116 ∷ 97 ∷ 108 ∷ [])

-- `refused`, and the number
abbrev pub refused_line : ℕ → List ℕ
refused_line = last_line (114 ∷ 101 ∷ 102 ∷ 117 ∷ 115 ∷ 101 ∷ 100 ∷ [])

-- a line for each list, then the total of the multiplicities
abbrev pub text : List (List ℕ) → List ℕ
text ls = joined line ls ++ total_line (total_count ls)

abbrev pub unless : Result (Unit {0}) Refusal → List ℕ → List ℕ
unless (Ok _) t = t
unless (Err r) t = refused_line (number r)

-- the text of a pair: its lists, or its refusal
unfoldable pub answer : ℕ → ℕ → List ℕ
answer order len = unless (tested order len) (text (lists order len))
