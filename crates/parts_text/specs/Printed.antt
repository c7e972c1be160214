-- What the program `parts` prints: a function from the bytes that it reads to the bytes that it writes. Assumes nothing.
use Rattle.std.specs.Prelude.{cond, List, [], ◌∷◌, ◌++◌, ℕ, ◌+◌, ◌-◌, ◌*◌, ltb, leb, eqb, length, take, drop, replicate}
use Rattle.std.proofs.Math.Option.{Option, some, none}
use Rattle.parts_text.specs.declared.input.Kind.{Kind}
use Rattle.parts_text.specs.declared.input.Kind.TheVariants.{Digit, Separator, Other}
use Rattle.parts_text.specs.declared.out.Text.{Text}
use Rattle.parts_text.specs.Text.{answer, refused_line}

-- a space, a line feed and a carriage return separate
abbrev pub separates : ℕ → Kind
separates b = cond (eqb b 32) Separator (cond (eqb b 10) Separator (cond (eqb b 13) Separator Other))

abbrev pub kind : ℕ → Kind
kind b = cond (ltb b 48) (separates b) (cond (leb b 57) (Digit (b - 48)) Other)

-- the number under way, if there is one, and a digit more
abbrev pub grown : Option ℕ → ℕ → ℕ
grown none d = d
grown (some v) d = 10 * v + d

-- the number that was under way, if there was one, before the numbers that follow
abbrev pub before : Option ℕ → Option (List ℕ) → Option (List ℕ)
before none l = l
before (some v) none = none
before (some v) (some l) = some (v ∷ l)

abbrev pub spell : Option ℕ → Kind → (Option ℕ → Option (List ℕ)) → Option (List ℕ)
spell u (Digit d) rest = rest (some (grown u d))
spell u Separator rest = before u (rest none)
spell u Other rest = none

-- the numbers that the bytes spell, after the number under way; none where a byte is neither a digit nor a separator
unfoldable pub numbers : Option ℕ → List ℕ → Option (List ℕ)
numbers u [] = before u (some [])
numbers u (b ∷ bs) = spell u (kind b) (λ w. numbers w bs)

-- two numbers are an order and a len; anything else is refused 2
abbrev pub said : Option (List ℕ) → List ℕ
said none = refused_line 2
said (some []) = refused_line 2
said (some (order ∷ [])) = refused_line 2
said (some (order ∷ len ∷ [])) = answer order len
said (some (order ∷ len ∷ n ∷ l)) = refused_line 2

unfoldable pub printed : List ℕ → List ℕ
printed input = said (numbers none input)

-- an array with a text at its front
abbrev pub written : List ℕ → List ℕ → List ℕ
written t out = t ++ drop (length t) out

-- a text at the front of zeros, and what is shown of an array
abbrev pub filled : List ℕ → Text
filled t = record { bytes = written t (replicate 4096 0); len = length t }

abbrev pub shown : Text → List ℕ
shown p = take p.len p.bytes
