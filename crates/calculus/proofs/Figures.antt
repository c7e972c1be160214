-- Small figures that the definitions alone give, at the integers. Document 01's own are in the crate `figures`. Assumes nothing.
use Rattle.std.proofs.Common.{◌≡◌, refl, List, [], ◌∷◌, ℕ, ℤ, pos, get_or}
use Rattle.calculus.specs.Kind.{plain}
use Rattle.calculus.specs.InTurn.{in_turn, in_rows}
use Rattle.calculus.specs.Rising.{before}
use Rattle.calculus.specs.Choose.{choose}
use Rattle.calculus.specs.Surface
use Rattle.calculus.specs.Graded.{place, graded}
use Rattle.calculus.specs.Array.{listed, curve_array}

-- the entries of a list, and zero past them
abbrev curve : List ℤ → ℕ → ℤ
curve l i = get_or l i (pos 0)

abbrev surface : List (List ℤ) → ℕ → ℕ → ℤ
surface l i j = get_or (get_or l i []) j (pos 0)

-- the curve (1, 2, 3)
abbrev one-two-three : ℕ → ℤ
one-two-three = curve (pos 1 ∷ pos 2 ∷ pos 3 ∷ [])

-- a surface
abbrev given : ℕ → ℕ → ℤ
given = surface ((pos 5 ∷ pos 3 ∷ pos 6 ∷ []) ∷ (pos 2 ∷ pos 4 ∷ []) ∷ (pos 1 ∷ []) ∷ [])

-- a surface's quotient: the square over the surface, up to order 2
abbrev square-root : ℕ → ℕ → ℤ
square-root = Surface.quotient plain (Surface.product plain given given) given

over-surface : square-root 0 0 ∷ square-root 0 1 ∷ square-root 0 2 ∷ square-root 1 0 ∷ square-root 1 1 ∷ square-root 2 0 ∷ []
    ≡ pos 5 ∷ pos 3 ∷ pos 6 ∷ pos 2 ∷ pos 4 ∷ pos 1 ∷ []
unfolding in_turn in_rows before choose
over-surface = refl

-- an array of 21 with the entries up to the order 1; and the places of a surface's entries up to the order 2
short : get_or (curve_array (pos 0) one-two-three 1) 1 (pos 7) ∷ get_or (curve_array (pos 0) one-two-three 1) 2 (pos 7) ∷ [] ≡ pos 2 ∷ pos 0 ∷ []
unfolding listed
short = refl

graded-places : listed (graded given) 0 6 ≡ pos 5 ∷ pos 3 ∷ pos 2 ∷ pos 6 ∷ pos 4 ∷ pos 1 ∷ []
unfolding listed place
graded-places = refl
