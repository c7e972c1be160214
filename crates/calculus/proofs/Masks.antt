-- A surface's entry by bits is the derivative by the variables that the bits name, so its carry is the general one at two variables.
-- Assumes nothing.
use Rattle.std.proofs.Common.{◌≡◌, refl, sym, ◌∙◌, ap₂, List, [], ◌∷◌, ℕ, zero, suc, ◌+◌, ◌-◌, ◌/◌, ◌%◌, ◌≤◌, ◌<◌, arith, le_refl, length}
use Rattle.calculus.specs.Kind.{regular, plain}
use Rattle.calculus.specs.Carry.{digits, ones, surface_entry, coordinates, composite_derivatives}
use Rattle.calculus.proofs.Jets.{Curve, Surface}
use Rattle.calculus.proofs.Space.{carry}
use Rattle.calculus.proofs.Jet.{derive, jets}
use Rattle.calculus.proofs.CarryAlike.{digits-length, ones-le}
use Rattle.calculus.proofs.UpTo.{field_derivatives-upto}
use Rattle.calculus.proofs.Plain.{along, entry_of, carry-is}

-- the first bit's derivative, and the entry that the other bits name
bit : (s : Surface) (r n o : ℕ) → r < 2 → o ≤ n → derive 2 r s (n - o) o ≡ s (suc n - (r + o)) (r + o)
bit s zero n o h g = ap₂ s (left n o g) (right o)
  where
    left : (n o : ℕ) → o ≤ n → suc (n - o) ≡ suc n - (0 + o)
    left n o g = omega arith

    right : (o : ℕ) → o ≡ 0 + o
    right o = omega arith
bit s (suc zero) n o h g = ap₂ s (left n o g) (right o)
  where
    left : (n o : ℕ) → o ≤ n → n - o ≡ suc n - (1 + o)
    left n o g = omega arith

    right : (o : ℕ) → suc o ≡ 1 + o
    right o = omega arith
bit s (suc (suc r)) n o h g = absurd (omega arith)

pub bits_are : (s : Surface) (l : List ℕ) (mask : ℕ) → surface_entry s (digits 2 l mask) ≡ entry_of (jets 2) s (digits 2 l mask)
unfolding along digits ones
bits_are s [] mask = refl
bits_are s (a ∷ l) mask =
    sym (bit s (mask % 2) (length (digits 2 l (mask / 2))) (ones (digits 2 l (mask / 2))) (omega arith)
    (omega (arith, ones-le l (mask / 2), digits-length 2 l (mask / 2))))
    ∙ bits_are (derive 2 (mask % 2) s) l (mask / 2)

pub surface-is : (u v : Curve) (s : Surface) (n : ℕ) → composite_derivatives (regular plain) u v s n ≡ carry (jets 2) (coordinates u v) s n
surface-is u v s n =
    field_derivatives-upto (regular plain) n 2 (surface_entry s) (entry_of (jets 2) s) (λ k i l. refl) (λ l mask k. bits_are s l mask) n (le_refl n)
    ∙ carry-is (jets 2) (coordinates u v) s n
