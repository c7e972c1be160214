-- Carrying keeps a relation that the operations of two kinds of scalar and of entry keep: as far as the field and the curve are related.
-- Assumes nothing.
use Rattle.std.proofs.Common.{◌≡◌, refl, Bool, true, false, cond, List, [], ◌∷◌, ℕ, zero, suc, ◌-◌, ◌/◌, ◌%◌, ◌^◌, ◌≤◌, le_refl, arith, eqb, length}
use Rattle.partitions.specs.Parts.{multiplicity}
use Rattle.calculus.specs.Kind.{Module}
use Rattle.calculus.specs.Carry.{digits, factors, tensor, summand, through_len, field_derivative, field_derivatives, ones, surface_entry, coordinates, composite_derivative, composite_derivatives}
use Rattle.calculus.proofs.Related.{RelatedModules, CurvesAlike, SurfacesAlike, in_turn-alike, along_list-alike}
use Rattle.partitions.proofs.Down.{Down, none, one}
use Rattle.partitions.proofs.Lists.{sound}

pub digits-length : (d : ℕ) (l : List ℕ) (mask : ℕ) → length (digits d l mask) ≡ length l
unfolding digits
digits-length d [] mask = refl
digits-length d (a ∷ l) mask = rw (digits-length d l (mask / d)) refl

pub ones-le : (l : List ℕ) (mask : ℕ) → ones (digits 2 l mask) ≤ length l
unfolding ones digits
ones-le [] mask = omega arith
ones-le (a ∷ l) mask = omega (arith, ones-le l (mask / 2))

-- at order 0 a carried jet has the surface's [0][0]
pub composite-zero : {S A : Type 0} (M : Module S A) (u v : ℕ → S) (s : ℕ → ℕ → A) → composite_derivatives M u v s 0 ≡ s 0 0
unfolding ones
composite-zero M u v s = refl

module _ {S T A B : Type 0} (P : S → T → Type 0) (R : A → B → Type 0) (M : Module S A) (N : Module T B) (r : RelatedModules P R M N) (n : ℕ) where
  -- any number of variables: the coordinates, and the entries that masks name
  module _ (d : ℕ) (b : ℕ → ℕ → S) (c : ℕ → ℕ → T) (e : List ℕ → A) (f : List ℕ → B)
      (p : (k : ℕ) → CurvesAlike P n (b k) (c k))
      (q : (l : List ℕ) (mask : ℕ) → length l ≤ n → R (e (digits d l mask)) (f (digits d l mask))) where
    factors-alike : {m : ℕ} {x : S} {y : T} {l : List ℕ} → P x y → Down m l → m ≤ n → (mask : ℕ) → P (factors M.scalars d b x l mask) (factors N.scalars d c y l mask)
    unfolding factors
    factors-alike h none k mask = h
    factors-alike h (one {a = a} g o) k mask =
        factors-alike (r.times _ _ _ _ h (p (mask % d) (suc a) (omega arith))) o (omega arith) (mask / d)

    tensor-alike : {l : List ℕ} → Down n l → length l ≤ n → R (tensor M d b e l) (tensor N d c f l)
    tensor-alike {l} o k =
        in_turn-alike R R M.plus N.plus (λ a c b d. r.plus a c b d) _ _ (d ^ length l) r.zero
        (λ mask g. r.scale _ _ _ _ (q l mask k) (factors-alike r.one o (le_refl n) mask))

    widen : {k m : ℕ} {l : List ℕ} → Down k l → k ≤ m → Down m l
    widen none h = none
    widen {m = m} (one {a = a} g o) h = one {m = m} {a = a} (omega arith) o

    pub through_len-alike : (order : ℕ) → order ≤ n → (len : ℕ) → len ≤ n → R (through_len M d b e order len) (through_len N d c f order len)
    unfolding through_len
    through_len-alike order g zero h = r.zero
    through_len-alike order g (suc len) h =
        along_list-alike R R M.plus N.plus (λ a c b d. r.plus a c b d) (summand M d b e) (summand N d c f)
        (through_len-alike order g len (omega arith)) (sound (suc len) order order)
        (λ l i. r.scale _ _ _ _ (tensor-alike (widen i.down g) (omega (arith, i.long))) (r.of_nat (multiplicity l)))

    pub field_derivative-alike : CurvesAlike R n (field_derivative M d b e) (field_derivative N d c f)
    field_derivative-alike i l = through_len-alike i l i l

    pub field_derivatives-alike : CurvesAlike R n (field_derivatives M d b e) (field_derivatives N d c f)
    unfolding digits
    field_derivatives-alike zero l = q [] 0 l
    field_derivatives-alike (suc i) l = field_derivative-alike (suc i) l

  -- a surface along the curve (u, v)
  module _ (u v : ℕ → S) (x y : ℕ → T) (s : ℕ → ℕ → A) (t : ℕ → ℕ → B)
      (p : CurvesAlike P n u x) (q : CurvesAlike P n v y) (h : SurfacesAlike R n s t) where
    pick : (k : ℕ) → CurvesAlike P n (coordinates u v k) (coordinates x y k)
    pick k a l = go (eqb k 0)
      where
        go : (z : Bool) → P (cond z (u a) (v a)) (cond z (x a) (y a))
        go true = p a l
        go false = q a l

    entry-alike : (l : List ℕ) (mask : ℕ) → length l ≤ n → R (surface_entry s (digits 2 l mask)) (surface_entry t (digits 2 l mask))
    entry-alike l mask k =
        let g : length (digits 2 l mask) ≡ length l = digits-length 2 l mask in
        h (length (digits 2 l mask) - ones (digits 2 l mask)) (ones (digits 2 l mask)) (omega (arith, ones-le l mask, g))

    pub composite_derivative-alike : CurvesAlike R n (composite_derivative M u v s) (composite_derivative N x y t)
    composite_derivative-alike = field_derivative-alike 2 (coordinates u v) (coordinates x y) (surface_entry s) (surface_entry t) pick entry-alike

    pub composite_derivatives-alike : CurvesAlike R n (composite_derivatives M u v s) (composite_derivatives N x y t)
    composite_derivatives-alike = field_derivatives-alike 2 (coordinates u v) (coordinates x y) (surface_entry s) (surface_entry t) pick entry-alike
