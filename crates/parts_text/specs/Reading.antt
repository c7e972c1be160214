-- The input read byte by byte, in bounded memory: numbers above 20 are kept as 21. That what a reading says at the end is what is printed for the
-- whole input is proved (proofs/Laws.antt). Assumes nothing.
use Rattle.std.specs.Prelude.{Bool, true, false, List, [], ◌∷◌, ℕ, ◌+◌, ◌*◌, min}
use Rattle.parts_text.specs.declared.input.Kind.{Kind}
use Rattle.parts_text.specs.declared.input.Kind.TheVariants.{Digit, Separator, Other}
use Rattle.parts_text.specs.declared.Reading.{Reading}
use Rattle.parts_text.specs.declared.Reading.TheVariants.{Before, InOrder, AfterOrder, InLen, AfterLen, Malformed}
use Rattle.parts_text.specs.Text.{answer, refused_line}
use Rattle.parts_text.specs.Printed.{kind}

-- a digit more, where any number above 20 will do for any other
abbrev pub capped : ℕ → ℕ → ℕ
capped v d = min (10 * min v 21 + d) 21

abbrev pub with_digit : Reading → ℕ → Reading
with_digit Before d = InOrder (capped 0 d)
with_digit (InOrder v) d = InOrder (capped v d)
with_digit (AfterOrder v) d = InLen v (capped 0 d)
with_digit (InLen v w) d = InLen v (capped w d)
with_digit (AfterLen v w) d = Malformed
with_digit Malformed d = Malformed

abbrev pub with_separator : Reading → Reading
with_separator Before = Before
with_separator (InOrder v) = AfterOrder v
with_separator (AfterOrder v) = AfterOrder v
with_separator (InLen v w) = AfterLen v w
with_separator (AfterLen v w) = AfterLen v w
with_separator Malformed = Malformed

abbrev pub step : Reading → Kind → Reading
step s (Digit d) = with_digit s d
step s Separator = with_separator s
step s Other = Malformed

unfoldable pub fed : Reading → List ℕ → Reading
fed s [] = s
fed s (b ∷ bs) = fed (step s (kind b)) bs

-- what is printed where the input ends
abbrev pub finished : Reading → List ℕ
finished Before = refused_line 2
finished (InOrder v) = refused_line 2
finished (AfterOrder v) = refused_line 2
finished (InLen v w) = answer v w
finished (AfterLen v w) = answer v w
finished Malformed = refused_line 2

-- whether nothing that follows can change what is printed; that it is so of these readings, and of no other, is proved (proofs/Settled.antt)
abbrev pub settled : Reading → Bool
settled Before = false
settled (InOrder v) = false
settled (AfterOrder v) = false
settled (InLen v w) = false
settled (AfterLen v w) = false
settled Malformed = true
