-- The derivatives of a field along a curve (document 01's "carry"): Faà di Bruno's formula, in any number of variables, over lists of
-- parts and masks with a digit for each part. Then for surfaces. Assumes nothing.
use Rattle.std.specs.Prelude.{cond, List, [], ◌∷◌, ℕ, zero, suc, ◌+◌, ◌-◌, ◌/◌, ◌%◌, ◌^◌, eqb, length}
use Rattle.partitions.specs.Parts.{lists, multiplicity}
use Rattle.calculus.specs.Kind.{Kind, Module}
use Rattle.calculus.specs.InTurn.{in_turn, along_list}

-- the digits of a mask in base d, one for each part, the lowest first: each says by which variable the part's factor is
unfoldable pub digits : ℕ → List ℕ → ℕ → List ℕ
digits d [] mask = []
digits d (a ∷ l) mask = mask % d ∷ digits d l (mask / d)

-- x times, for each part in turn, the derivative of the part's order of the coordinate that its digit names; the coordinate k is c k
module _ {S : Type 0} (K : Kind S) (d : ℕ) (c : ℕ → ℕ → S) where
  unfoldable pub factors : S → List ℕ → ℕ → S
  factors x [] mask = x
  factors x (a ∷ l) mask = factors (K.times x (c (mask % d) a)) l (mask / d)

-- the field's derivative, once by each variable of a list, is the list's entry
module _ {S A : Type 0} (M : Module S A) (d : ℕ) (c : ℕ → ℕ → S) (entry : List ℕ → A) where
  -- over all masks, the entry times the factors
  abbrev pub tensor : List ℕ → A
  tensor l =
      let K = M.scalars in
      in_turn M.plus M.zero (λ mask. M.scale (entry (digits d l mask)) (factors K d c K.one l mask)) (d ^ length l)

  abbrev pub summand : List ℕ → A
  summand l = M.scale (tensor l) (M.scalars.of_nat (multiplicity l))

  -- one running total over the lists of the first len lengths
  unfoldable pub through_len : ℕ → ℕ → A
  through_len order zero = M.zero
  through_len order (suc len) = along_list M.plus (through_len order len) summand (lists order (suc len))

  abbrev pub field_derivative : ℕ → A
  field_derivative order = through_len order order

  -- the same, with the field's value at order 0
  abbrev pub field_derivatives : ℕ → A
  field_derivatives zero = entry []
  field_derivatives (suc n) = field_derivative (suc n)

-- ---- a surface s along the curve (u, v)
unfoldable pub ones : List ℕ → ℕ
ones [] = 0
ones (b ∷ bits) = b + ones bits

-- bits with t ones name the entry [length - t][t]
abbrev pub surface_entry : {A : Type 0} → (ℕ → ℕ → A) → List ℕ → A
surface_entry s bits = s (length bits - ones bits) (ones bits)

-- bit 0 names u, and bit 1 names v
abbrev pub coordinates : {S : Type 0} → (ℕ → S) → (ℕ → S) → ℕ → ℕ → S
coordinates u v bit a = cond (eqb bit 0) (u a) (v a)

module _ {S A : Type 0} (M : Module S A) (u v : ℕ → S) (s : ℕ → ℕ → A) where
  abbrev pub composite_derivative : ℕ → A
  composite_derivative = field_derivative M 2 (coordinates u v) (surface_entry s)

  abbrev pub composite_derivatives : ℕ → A
  composite_derivatives = field_derivatives M 2 (coordinates u v) (surface_entry s)
