-- Arrays of vectors: what they hold, what a loop stores in them, and when they are finite. Assumes nothing.
use Rattle.std.proofs.Common.{◌≡◌, Bool, true, false, cond, ◌&&◌, List, [], ◌∷◌, ◌++◌, Float, ℕ, zero, suc, ◌+◌, ◌*◌, ◌≤◌, ◌<◌, ltb, length, get_or, set, replicate, take, drop, refl, sym, ap, ap₂, ◌∙◌, arith, lt-ltb, le-ltb, ltb-true, ltb-false}
use Rattle.std.specs.Float.{nan}
use Rattle.std.specs.Float.Ieee.Scale.{finite}
use Rattle.std.proofs.lemmas.List.{get_or-take, get_or-drop, length-take-le}
use Rattle.std.proofs.Math.ListN.{get_or-eq_default}
use Rattle.ieee_vectors.specs.declared.Vector3.{Vector3}
use Rattle.ieee_vectors.specs.Vectors.{vector, positive_zero}
use Rattle.ieee_vectors.specs.Finite.{finite_vector}
use Rattle.calculus.specs.Array.{listed, filled, curve_array, surface_array}
use Rattle.calculus.specs.Rising.{before, rising}
use Rattle.calculus.proofs.LoopFilling.{CurveStored, curve-none, curve-more, curve-all, curve-earlier, filled_at, listed_same}
use Rattle.calculus.proofs.LoopSurfaceFilling.{array_at}
use Rattle.calculus.proofs.Same.{filled-same}
use Rattle.calculus.proofs.UpTo.{CurvesAgree, SurfacesAgree}
use Rattle.calculus.specs.Graded.{triangle, index, graded}
use Rattle.calculus.proofs.Graded.{index-place}
use Rattle.vector_formulas.specs.Vector.{origin, put, stored, vector_numbers, flat, vector_surface_numbers, vector_array, vector_surface_array, all_vectors_finite, finite_vector_surface}
use Rattle.formulas.specs.Numbers.{curve_numbers, all_pass, all_finite, finite_list}
use Rattle.formulas.proofs.Finite.{same}
use Rattle.formulas.proofs.Curves.{copied}

-- what the logic reads past the end
abbrev pub nowhere : Vector3
nowhere = vector nan nan nan

three : (k : ℕ) → 3 * suc k ≡ suc (suc (suc (3 * k)))
three k = omega arith

-- ---- reading and writing at i, i + 1 and i + 2
abbrev at : List Float → ℕ → Vector3
at l i = vector (get_or l i nan) (get_or l (i + 1) nan) (get_or l (i + 2) nan)

module _ (a b c : Float) (l : List Float) (i : ℕ) where
  one_on : suc (suc (suc i)) + 1 ≡ suc (suc (suc (i + 1)))
  one_on = omega arith

  two-on : suc (suc (suc i)) + 2 ≡ suc (suc (suc (i + 2)))
  two-on = omega arith

  at_on : at (a ∷ b ∷ c ∷ l) (suc (suc (suc i))) ≡ at l i
  at_on = ap₂ (λ (j k : ℕ). vector (get_or l i nan) (get_or (a ∷ b ∷ c ∷ l) j nan) (get_or (a ∷ b ∷ c ∷ l) k nan)) one_on two-on

  put_on : (v : Vector3) → put (a ∷ b ∷ c ∷ l) (suc (suc (suc i))) v ≡ a ∷ b ∷ c ∷ put l i v
  put_on v = ap₂ (λ (j k : ℕ). set (set (set (a ∷ b ∷ c ∷ l) (suc (suc (suc i))) v.x) j v.y) k v.z) one_on two-on

-- an entry that the array has not, or of which it has not all three floats
pub past-at : (l : List Float) (k : ℕ) → length l ≤ k → nowhere ≡ vector_numbers l k
past-at l k h =
    ap₂ (λ (x y : Float). vector x y nan) (sym (get_or-eq_default l nan (omega arith))) (sym (get_or-eq_default l nan (omega arith)))
    ∙ ap (vector (get_or l (3 * k) nan) (get_or l (3 * k + 1) nan)) (sym (get_or-eq_default l nan (omega arith)))

pub end-at : {x y : Float} (l : List Float) (k : ℕ) → length l ≤ 3 * k + 2 → x ≡ get_or l (3 * k) nan → y ≡ get_or l (3 * k + 1) nan →
    vector x y nan ≡ vector_numbers l k
end-at l k h p q =
    ap₂ (λ (x y : Float). vector x y nan) p q
    ∙ ap (vector (get_or l (3 * k) nan) (get_or l (3 * k + 1) nan)) (sym (get_or-eq_default l nan h))

-- one stored where the array has the entry
pub stored-put : (l : List Float) (k : ℕ) (v : Vector3) → 3 * k + 2 < length l → stored l k v ≡ put l (3 * k) v
stored-put l k v h = ap (λ (t : Bool). cond t (put l (3 * k) v) l) (lt-ltb (3 * k + 2) (length l) h)

pub flat-at : (l : List Vector3) (k : ℕ) → vector_numbers (flat l) k ≡ get_or l k nowhere
unfolding flat
flat-at [] k = refl
flat-at (a ∷ l) zero = refl
flat-at (a ∷ l) (suc k) = ap (at (a.x ∷ a.y ∷ a.z ∷ flat l)) (three k) ∙ at_on a.x a.y a.z (flat l) (3 * k) ∙ flat-at l k

pub flat-put : (l : List Vector3) (k : ℕ) (v : Vector3) → put (flat l) (3 * k) v ≡ flat (set l k v)
unfolding flat
flat-put [] k v = refl
flat-put (a ∷ l) zero v = refl
flat-put (a ∷ l) (suc k) v =
    ap (λ (i : ℕ). put (a.x ∷ a.y ∷ a.z ∷ flat l) i v) (three k) ∙ put_on a.x a.y a.z (flat l) (3 * k) v
    ∙ ap (λ (r : List Float). a.x ∷ a.y ∷ a.z ∷ r) (flat-put l k v)

pub flat-zeros : (w : ℕ) → replicate (3 * w) positive_zero ≡ flat (replicate w origin)
unfolding flat
flat-zeros zero = refl
flat-zeros (suc w) = ap (λ (k : ℕ). replicate k positive_zero) (three w) ∙ ap (λ (r : List Float). positive_zero ∷ positive_zero ∷ positive_zero ∷ r) (flat-zeros w)

pub flat-length : (l : List Vector3) → length (flat l) ≡ 3 * length l
unfolding flat
flat-length [] = refl
flat-length (a ∷ l) = let e = flat-length l in omega arith

-- the first 3 k floats are the first k vectors
pub flat-listed : (f : ℕ → Float) (i k : ℕ) → listed f (3 * i) (3 * k) ≡ flat (listed (λ j. vector (f (3 * j)) (f (3 * j + 1)) (f (3 * j + 2))) i k)
unfolding flat listed
flat-listed f i zero = refl
flat-listed f i (suc k) =
    ap (listed f (3 * i)) (three k)
    ∙ ap₂ (λ (a b : ℕ). f (3 * i) ∷ f a ∷ f b ∷ listed f (suc (suc (suc (3 * i)))) (3 * k)) one two
    ∙ ap (λ (j : ℕ). f (3 * i) ∷ f (3 * i + 1) ∷ f (3 * i + 2) ∷ listed f j (3 * k)) (sym (three i))
    ∙ ap (λ (r : List Float). f (3 * i) ∷ f (3 * i + 1) ∷ f (3 * i + 2) ∷ r) (flat-listed f (suc i) k)
  where
    one : suc (3 * i) ≡ 3 * i + 1
    one = omega arith

    two : suc (suc (3 * i)) ≡ 3 * i + 2
    two = omega arith

-- ---- an array of w vectors, of which those are stored that a loop has passed
pub record Held (P : List Vector3 → Type 0) (r : List Float) : Type 0 where
  pub list : List Vector3
  pub is : r ≡ flat list
  pub holds : P list

pub held-long : (w : ℕ) {P : List Vector3 → Type 0} {r : List Float} (h : Held P r) → length h.list ≡ w → 3 * w ≡ length r
held-long w h e = sym (ap length h.is ∙ flat-length h.list ∙ ap (◌*◌ 3) e)

module _ (f : ℕ → Vector3) where
  abbrev pub VectorsStored : ℕ → List Vector3 → Type 0
  VectorsStored = CurveStored 21 nowhere origin (λ k v. f k ≡ v)

  abbrev pub VectorsFilled : ℕ → List Float → Type 0
  VectorsFilled m = Held (VectorsStored m)

  pub vectors-none : VectorsFilled 0 (replicate 63 positive_zero)
  vectors-none = record { list = replicate 21 origin; is = flat-zeros 21; holds = curve-none 21 nowhere origin (λ k v. f k ≡ v) }

  pub vectors-more : {r : List Float} {m : ℕ} (v : Vector3) → VectorsFilled m r → m < 21 → f m ≡ v → VectorsFilled (m + 1) (put r (3 * m) v)
  vectors-more {r} {m} v h l e = record {
    list = set h.list m v;
    is = ap (λ (x : List Float). put x (3 * m) v) h.is ∙ flat-put h.list m v;
    holds = curve-more 21 nowhere origin (λ k v. f k ≡ v) v h.holds l e;
  }

  pub vectors-long : {r : List Float} {m : ℕ} → VectorsFilled m r → 63 ≡ length r
  vectors-long h = held-long 21 h h.holds.long

  pub vectors-stored : {r q : List Float} {m : ℕ} (v : Vector3) → VectorsFilled m r → m < 21 → f m ≡ v → q ≡ put r (3 * m) v → VectorsFilled (m + 1) q
  vectors-stored v h l e g = rw g (vectors-more v h l e)

  pub vectors-all : {r : List Float} (n : ℕ) {m : ℕ} → VectorsFilled m r → m ≡ suc n → r ≡ vector_array f n
  vectors-all n h e = h.is ∙ ap flat (curve-all 21 nowhere origin (λ k v. f k ≡ v) f (λ k v q. sym q) (suc n) h.holds e)

-- the entries before m, of those that rise, are what the array holds
pub vectors-earlier : (step : (ℕ → Vector3) → ℕ → Vector3) {r : List Float} {m : ℕ} → VectorsFilled (rising origin step) m r →
    (k : ℕ) → k < 21 → before origin step m k ≡ vector_numbers r k
vectors-earlier step {r} {m} h k l =
    curve-earlier 21 nowhere origin (λ (v : Vector3). v) step h.holds k l
    ∙ sym (ap (λ (x : List Float). vector_numbers x k) h.is ∙ flat-at h.list k)

-- ---- what is read of an array that a formula filled: the formula's entries
pub vectors-agree : (f : ℕ → Vector3) (n : ℕ) → n ≤ 20 → {r : List Float} → r ≡ vector_array f n → CurvesAgree n (vector_numbers r) f
vectors-agree f n h e k l =
    ap (λ (x : List Float). vector_numbers x k) e ∙ flat-at (curve_array origin f n) k ∙ filled_at 21 nowhere origin f (suc n) k (omega arith)
    ∙ ap (λ (t : Bool). cond t (f k) origin) (lt-ltb k (suc n) (omega arith))

pub surface-agrees : (s : ℕ → ℕ → Vector3) (n : ℕ) → n ≤ 20 → {r : List Float} → r ≡ vector_surface_array s n → SurfacesAgree n (vector_surface_numbers r) s
surface-agrees s n h e i j l =
    ap (λ (x : List Float). vector_surface_numbers x i j) e ∙ flat-at (surface_array origin s n) (index i j) ∙ array_at nowhere origin s n i j h l

-- entries that agree up to an order fill an array alike
pub vectors-upto : (f g : ℕ → Vector3) (n : ℕ) → CurvesAgree n f g → vector_array f n ≡ vector_array g n
vectors-upto f g n h = ap flat (filled-same 21 (suc n) origin f g (λ k l. h k (omega arith)))

-- ---- the array is finite as far as it is filled where its entries are
pub filled-finite : (w : ℕ) (f : ℕ → Vector3) (n : ℕ) → n ≤ w → all_vectors_finite (vector_numbers (flat (filled w origin f n))) n ≡ all_vectors_finite f n
filled-finite w f n l =
    same finite_vector (vector_numbers (flat (filled w origin f n))) f n
    (λ k h. flat-at (filled w origin f n) k ∙ filled_at w nowhere origin f n k (omega arith)
    ∙ ap (λ (b : Bool). cond b (f k) origin) (lt-ltb k n h))

-- a surface's entries up to the order n are the first of its array
pub surface-finite : (l : List Float) (n : ℕ) → all_vectors_finite (vector_numbers l) (triangle (suc n)) ≡ finite_vector_surface (vector_surface_numbers l) n
surface-finite l n =
    same finite_vector (vector_numbers l) (graded (vector_surface_numbers l)) (triangle (suc n)) (λ k h. ap (vector_numbers l) (sym (index-place k)))

-- the first vectors are finite where the floats of a list that begins with them are
three-tests : (a b c d : Bool) → (a && b && c && d) ≡ (a && (b && c && d))
three-tests true b c d = refl
three-tests false b c d = refl

first-finite : (l : List Float) (n : ℕ) → all_finite (curve_numbers l) (3 * n) ≡ all_vectors_finite (vector_numbers l) n
unfolding all_pass
first-finite l zero = refl
first-finite l (suc n) =
    ap (all_finite (curve_numbers l)) (three n)
    ∙ three-tests (all_finite (curve_numbers l) (3 * n)) (finite (get_or l (3 * n) nan)) (finite (get_or l (suc (3 * n)) nan)) (finite (get_or l (suc (suc (3 * n))) nan))
    ∙ ap₂ ◌&&◌ (first-finite l n) (ap₂ (λ (j k : ℕ). finite (get_or l (3 * n) nan) && finite (get_or l j nan) && finite (get_or l k nan)) one two)
  where
    one : suc (3 * n) ≡ 3 * n + 1
    one = omega arith

    two : suc (suc (3 * n)) ≡ 3 * n + 2
    two = omega arith

pub vectors-finite : (l : List Float) (n : ℕ) → 3 * n ≤ length l → finite_list (take (3 * n) l) ≡ all_vectors_finite (vector_numbers l) n
vectors-finite l n h =
    let long : length (take (3 * n) l) ≡ 3 * n = length-take-le (3 * n) l h in
    ap (all_finite (curve_numbers (take (3 * n) l))) long
    ∙ same finite (curve_numbers (take (3 * n) l)) (curve_numbers l) (3 * n) (λ k q. get_or-take (3 * n) l k nan q)
    ∙ first-finite l n

-- the first n + 1 vectors are copied into an array of zeros
pub vectors_copied : (f : ℕ → Vector3) (n : ℕ) (part : List Float) → n ≤ 20 → length part ≡ 3 * n + 3 → ((k : ℕ) → k < suc n → vector_numbers part k ≡ f k) →
    part ++ drop (3 * n + 3) (replicate 63 positive_zero) ≡ vector_array f n
vectors_copied f n part b l h =
    copied 63 (curve_numbers part) part (omega arith) l (λ k q. refl)
    ∙ flat-listed written 0 21
    ∙ ap flat (listed_same (λ j. vector (written (3 * j)) (written (3 * j + 1)) (written (3 * j + 2))) (λ k. cond (ltb k (suc n)) (f k) origin) 0 0 21
    (λ x q. entry (0 + x) (ltb (0 + x) (suc n)) refl))
  where
    written : ℕ → Float
    written k = cond (ltb k (3 * n + 3)) (curve_numbers part k) positive_zero

    within : (k : ℕ) → k < 3 * n + 3 → written k ≡ curve_numbers part k
    within k q = ap (λ (t : Bool). cond t (curve_numbers part k) positive_zero) (lt-ltb k (3 * n + 3) q)

    past : (k : ℕ) → 3 * n + 3 ≤ k → written k ≡ positive_zero
    past k q = ap (λ (t : Bool). cond t (curve_numbers part k) positive_zero) (le-ltb k (3 * n + 3) q)

    entry : (j : ℕ) (t : Bool) → ltb j (suc n) ≡ t → vector (written (3 * j)) (written (3 * j + 1)) (written (3 * j + 2)) ≡ cond t (f j) origin
    entry j true e =
        let g : j < suc n = ltb-true j (suc n) e in
        ap₂ (λ (x y : Float). vector x y (written (3 * j + 2))) (within (3 * j) (omega arith)) (within (3 * j + 1) (omega arith))
        ∙ ap (vector (curve_numbers part (3 * j)) (curve_numbers part (3 * j + 1))) (within (3 * j + 2) (omega arith)) ∙ h j g
    entry j false e =
        let g : suc n ≤ j = ltb-false j (suc n) e in
        ap₂ (λ (x y : Float). vector x y (written (3 * j + 2))) (past (3 * j) (omega arith)) (past (3 * j + 1) (omega arith))
        ∙ ap (vector positive_zero positive_zero) (past (3 * j + 2) (omega arith))

-- an entry of the first floats of a list, and of those past the first vector
pub vector-taken : (l : List Float) (m k : ℕ) → 3 * k + 2 < m → vector_numbers (take m l) k ≡ vector_numbers l k
vector-taken l m k h =
    ap₂ (λ (x y : Float). vector x y (get_or (take m l) (3 * k + 2) nan)) (get_or-take m l (3 * k) nan (omega arith)) (get_or-take m l (3 * k + 1) nan (omega arith))
    ∙ ap (vector (get_or l (3 * k) nan) (get_or l (3 * k + 1) nan)) (get_or-take m l (3 * k + 2) nan h)

pub vector-dropped : (l : List Float) (k : ℕ) → vector_numbers (drop 3 l) k ≡ vector_numbers l (suc k)
vector-dropped l k =
    ap₂ (λ (x y : Float). vector x y (get_or (drop 3 l) (3 * k + 2) nan)) (get_or-drop 3 l (3 * k) nan ∙ ap read zero-on) (get_or-drop 3 l (3 * k + 1) nan ∙ ap read one-on)
    ∙ ap (vector (read (3 * suc k)) (read (3 * suc k + 1))) (get_or-drop 3 l (3 * k + 2) nan ∙ ap read two-on)
  where
    read : ℕ → Float
    read i = get_or l i nan

    zero-on : 3 + 3 * k ≡ 3 * suc k
    zero-on = omega arith

    one-on : 3 + (3 * k + 1) ≡ 3 * suc k + 1
    one-on = omega arith

    two-on : 3 + (3 * k + 2) ≡ 3 * suc k + 2
    two-on = omega arith
