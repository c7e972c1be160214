-- At the integers the folds are finite sums, and the formulas are the sums that the laws are proved of. Assumes nothing.
use Rattle.std.proofs.Common.{◌≡◌, refl, sym, ◌∙◌, ap, ap₂, List, [], ◌∷◌, ℕ, zero, suc, ◌/◌, ◌%◌, ◌^◌, ℤ, pos, ◌+ℤ◌, ◌-ℤ◌, ◌*ℤ◌, length}
use mathlib.Core.Path.{fun_ext}
use Rattle.partitions.specs.Parts.{lists, multiplicity}
use Rattle.calculus.specs.Kind.{regular, plain}
use Rattle.calculus.specs.InTurn.{in_turn, in_rows, along_list}
use Rattle.calculus.specs.Curve
use Rattle.calculus.specs.Surface
use Rattle.calculus.specs.Carry
use Rattle.calculus.specs.Carry.{digits, factors, through_len, field_derivatives}
use Rattle.calculus.proofs.Ints.{◌⊕◌, ◌⊗◌, neg, sum, over}
use Rattle.calculus.proofs.Ring.{zero-add, add-zero, add_assoc, mul_comm, mul_assoc, one-mul, neg-add, neg-zero}
use Rattle.calculus.proofs.Jets.{Curve, Surface, curve_mul, surface_mul}
use Rattle.calculus.proofs.Space.{Space, term, tensor, carry}

-- ---- the laws at the open operations
plus-last : (x y z : ℤ) → (x ⊕ y) +ℤ z ≡ x ⊕ (y ⊕ z)
unfolding ◌⊕◌
plus-last x y z = add_assoc x y z

plus-first : (x y z : ℤ) → (x +ℤ y) ⊕ z ≡ x ⊕ (y ⊕ z)
unfolding ◌⊕◌
plus-first x y z = add_assoc x y z

minus-last : (x s z : ℤ) → (x ⊕ neg s) -ℤ z ≡ x ⊕ neg (s ⊕ z)
unfolding ◌⊕◌ neg
minus-last x s z = add_assoc x (neg s) (neg z) ∙ ap (λ y. x ⊕ y) (sym (neg-add s z))

times-first : (x y z : ℤ) → (x *ℤ y) ⊗ z ≡ x ⊗ (y ⊗ z)
unfolding ◌⊗◌
times-first x y z = mul_assoc x y z

-- ---- folds
plus_turn : (x : ℤ) (f : ℕ → ℤ) (n : ℕ) → in_turn ◌+ℤ◌ x f n ≡ x ⊕ sum n f
unfolding in_turn sum
plus_turn x f zero = sym (add-zero x)
plus_turn x f (suc n) = ap (λ z. z +ℤ f n) (plus_turn x f n) ∙ plus-last x (sum n f) (f n)

pub plus-from-zero : (f : ℕ → ℤ) (n : ℕ) → in_turn ◌+ℤ◌ (pos 0) f n ≡ sum n f
plus-from-zero f n = plus_turn (pos 0) f n ∙ zero-add (sum n f)

pub minus-turn : (x : ℤ) (f : ℕ → ℤ) (n : ℕ) → in_turn ◌-ℤ◌ x f n ≡ x ⊕ neg (sum n f)
unfolding in_turn sum
minus-turn x f zero = sym (ap (λ z. x ⊕ z) neg-zero ∙ add-zero x)
minus-turn x f (suc n) = ap (λ z. z -ℤ f n) (minus-turn x f n) ∙ minus-last x (sum n f) (f n)

pub plus-rows : (f : ℕ → ℕ → ℤ) (m n : ℕ) → in_rows ◌+ℤ◌ (pos 0) f m n ≡ sum m (λ i. sum n (f i))
unfolding in_rows sum
plus-rows f zero n = refl
plus-rows f (suc m) n = plus_turn (in_rows ◌+ℤ◌ (pos 0) f m n) (f m) n ∙ ap (λ z. z ⊕ sum n (f m)) (plus-rows f m n)

pub minus-rows : (x : ℤ) (f : ℕ → ℕ → ℤ) (m n : ℕ) → in_rows ◌-ℤ◌ x f m n ≡ x ⊕ neg (sum m (λ i. sum n (f i)))
unfolding in_rows sum
minus-rows x f zero n = sym (ap (λ z. x ⊕ z) neg-zero ∙ add-zero x)
minus-rows x f (suc m) n =
    minus-turn (in_rows ◌-ℤ◌ x f m n) (f m) n ∙ ap (λ z. z ⊕ neg (sum n (f m))) (minus-rows x f m n) ∙ add_assoc _ _ _
    ∙ ap (λ z. x ⊕ z) (sym (neg-add (sum m (λ i. sum n (f i))) (sum n (f m))))

plus-list : (x : ℤ) (f : List ℕ → ℤ) (ls : List (List ℕ)) → along_list ◌+ℤ◌ x f ls ≡ x ⊕ over ls f
unfolding along_list over
plus-list x f [] = sym (add-zero x)
plus-list x f (l ∷ ls) = plus-list (x +ℤ f l) f ls ∙ plus-first x (f l) (over ls f)

-- ---- products
pub curve-product : (a b : Curve) (m : ℕ) → Curve.product plain a b m ≡ curve_mul a b m
unfolding curve_mul ◌⊗◌
curve-product a b m = plus-from-zero (Curve.leibniz (regular plain) ◌*ℤ◌ a b m) (suc m)

pub surface-product : (a b : Surface) (m n : ℕ) → Surface.product plain a b m n ≡ surface_mul a b m n
unfolding surface_mul ◌⊗◌
surface-product a b m n = plus-rows (Surface.leibniz (regular plain) ◌*ℤ◌ a b m n) (suc m) (suc n)

-- ---- the carry, where an entry is the field's derivative by the variables of a list
unfoldable pub along : (S : Space) → List ℕ → S.Field → S.Field
along S [] s = s
along S (k ∷ ks) s = along S ks (S.∂ k s)

abbrev pub entry_of : (S : Space) → S.Field → List ℕ → ℤ
entry_of S s ks = S.ev (along S ks s)

module _ (S : Space) (c : ℕ → Curve) where
  term_is : (s : S.Field) (x : ℤ) (l : List ℕ) (mask : ℕ) →
      entry_of S s (digits S.dim l mask) ⊗ factors plain S.dim c x l mask ≡ x ⊗ term S c s l mask
  unfolding along digits factors term
  term_is s x [] mask = mul_comm (S.ev s) x
  term_is s x (a ∷ l) mask =
      term_is (S.∂ (mask % S.dim) s) (x *ℤ c (mask % S.dim) a) l (mask / S.dim)
      ∙ times-first x (c (mask % S.dim) a) (term S c (S.∂ (mask % S.dim) s) l (mask / S.dim))

  tensor-is : (s : S.Field) (l : List ℕ) → Carry.tensor (regular plain) S.dim c (entry_of S s) l ≡ tensor S c s l
  unfolding tensor ◌⊗◌
  tensor-is s l =
      plus-from-zero (λ mask. entry_of S s (digits S.dim l mask) *ℤ factors plain S.dim c (pos 1) l mask) (S.dim ^ length l)
      ∙ ap (sum (S.dim ^ length l)) (fun_ext (λ mask. term_is s (pos 1) l mask ∙ one-mul (term S c s l mask)))

  through-is : (s : S.Field) (n len : ℕ) →
      through_len (regular plain) S.dim c (entry_of S s) n len ≡ sum len (λ k. over (lists n (suc k)) (λ l. tensor S c s l ⊗ pos (multiplicity l)))
  unfolding through_len sum ◌⊗◌
  through-is s n zero = refl
  through-is s n (suc len) =
      plus-list (through_len (regular plain) S.dim c (entry_of S s) n len) (Carry.summand (regular plain) S.dim c (entry_of S s)) (lists n (suc len))
      ∙ ap₂ (λ x (f : List ℕ → ℤ). x ⊕ over (lists n (suc len)) f) (through-is s n len) (fun_ext (λ l. ap (λ z. z *ℤ pos (multiplicity l)) (tensor-is s l)))

  pub carry-is : (s : S.Field) (n : ℕ) → field_derivatives (regular plain) S.dim c (entry_of S s) n ≡ carry S c s n
  unfolding carry along
  carry-is s zero = refl
  carry-is s (suc n) = through-is s (suc n) (suc n)
