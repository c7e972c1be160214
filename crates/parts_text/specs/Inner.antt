-- How the private functions write: byte by byte, of which nothing past the array's end is kept. That a text that fits stands at the front is proved
-- (proofs/Puts.antt). Assumes nothing.
use Rattle.std.specs.Prelude.{cond, List, [], ◌∷◌, ℕ, suc, ltb, length, set, Result, Ok, Err}
use Rattle.refusals.specs.declared.Refusal.{Refusal}
use Rattle.partitions.specs.Parts.{lists}
use Rattle.partitions.specs.Walk.{tested}
use Rattle.parts_text.specs.declared.out.Text.{Text}
use Rattle.parts_text.specs.Text.{text}

abbrev pub put : Text → ℕ → Text
put p b = cond (ltb p.len (length p.bytes)) (record { bytes = set p.bytes p.len b; len = suc p.len }) p

unfoldable pub puts : Text → List ℕ → Text
puts p [] = p
puts p (b ∷ bs) = puts (put p b) bs

-- what is written of a pair before it is known to be refused: its lists, or nothing
abbrev pub or_nothing : Result (Unit {0}) Refusal → List ℕ → List ℕ
or_nothing (Ok _) t = t
or_nothing (Err r) t = []

unfoldable pub listed : ℕ → ℕ → List ℕ
listed order len = or_nothing (tested order len) (text (lists order len))
