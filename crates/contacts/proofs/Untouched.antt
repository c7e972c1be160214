-- A step forms the entries of one order and leaves the others as they are. So every order meets the determinants and divisors of the entries of
-- order 0, and what is stored past the order is zero. Assumes nothing.
use Rattle.std.proofs.Common.{◌≡◌, refl, ap₂, ◌∙◌, Bool, true, false, cond, ◌⊎◌, inl, inr, ⊎_elim, List, ℕ, zero, suc, ◌+◌, ◌*◌, ◌-◌, ◌≤◌, ◌<◌, arith, ltb, length, get_or, set, replicate, get_or-set_other, Float}
use lib.ListN.{get_or-replicate}
use Rattle.std.specs.Float.{nan}
use Rattle.ieee_vectors.specs.Vectors.{minus, over, vector, quotient, dot, positive_zero}
use Rattle.ieee_vectors.specs.Matrices.{inverse3, image3}
use Rattle.ieee_vectors.specs.declared.Vector3.{Vector3}
use Rattle.ieee_vectors.specs.declared.Matrix3.{Matrix3}
use Rattle.calculus.specs.Kind.{regular}
use Rattle.calculus.specs.Curve.{derivative, product, product_by}
use Rattle.formulas.specs.Real.{real}
use Rattle.calculus.specs.Rational.{rational}
use Rattle.formulas.specs.Numbers.{curve_numbers}
use Rattle.vector_formulas.specs.Vector.{origin, vectors, vector_numbers, put, stored}
use Rattle.surface_info.specs.SurfaceInfo.{first_only, first_number_only, initial, along, offset, parameters, next_parameters, next_carried, next_cross, next_norm, next_normal, routine}
use Rattle.contacts.specs.Center.{edge, radii, jet0, jet1, start, planes, right_side, next_center, next, after, formed}
use Rattle.contacts.specs.declared.Place.{Place}
use Rattle.surface_info.specs.declared.SurfaceInfo.{SurfaceInfo}
use Rattle.contacts.specs.declared.steps.Formed.{Formed}

-- ---- an entry stored leaves the others
at_other : (l : List Float) (m p : ℕ) (e : Vector3) → ¬ (p ≡ 3 * m) → ¬ (p ≡ 3 * m + 1) → ¬ (p ≡ 3 * m + 2) → get_or (put l (3 * m) e) p nan ≡ get_or l p nan
at_other l m p e x y z =
    get_or-set_other (set (set l (3 * m) e.x) (3 * m + 1) e.y) (3 * m + 2) p e.z nan z
    ∙ get_or-set_other (set l (3 * m) e.x) (3 * m + 1) p e.y nan y
    ∙ get_or-set_other l (3 * m) p e.x nan x

put_other : (l : List Float) (m j : ℕ) (e : Vector3) → ¬ (j ≡ m) → vector_numbers (put l (3 * m) e) j ≡ vector_numbers l j
put_other l m j e h =
    let x = at_other l m (3 * j) e (λ q. h (omega arith)) (λ q. h (omega arith)) (λ q. h (omega arith)) in
    let y = at_other l m (3 * j + 1) e (λ q. h (omega arith)) (λ q. h (omega arith)) (λ q. h (omega arith)) in
    let z = at_other l m (3 * j + 2) e (λ q. h (omega arith)) (λ q. h (omega arith)) (λ q. h (omega arith)) in
    λ i. vector (x i) (y i) (z i)

either_way : (l r : List Float) (j : ℕ) (b : Bool) → vector_numbers r j ≡ vector_numbers l j → vector_numbers (cond b r l) j ≡ vector_numbers l j
either_way l r j true e = e
either_way l r j false e = refl

stored_other : (l : List Float) (m j : ℕ) (e : Vector3) → ¬ (j ≡ m) → vector_numbers (stored l m e) j ≡ vector_numbers l j
stored_other l m j e h = either_way l (put l (3 * m) e) j (ltb (3 * m + 2) (length l)) (put_other l m j e h)

-- ---- the entries of order j are the same
pub record SameInfo (j : ℕ) (a b : SurfaceInfo) : Type 0 where
  pub u : curve_numbers a.uv.u j ≡ curve_numbers b.uv.u j
  pub v : curve_numbers a.uv.v j ≡ curve_numbers b.uv.v j
  pub point : vector_numbers a.carried.point j ≡ vector_numbers b.carried.point j
  pub norm : curve_numbers a.normal.norm j ≡ curve_numbers b.normal.norm j
  pub unit : vector_numbers a.normal.unit j ≡ vector_numbers b.normal.unit j

pub record Same (j : ℕ) (k l : Formed) : Type 0 where
  pub center : vector_numbers k.center j ≡ vector_numbers l.center j
  pub info0 : SameInfo j k.info0 l.info0
  pub info1 : SameInfo j k.info1 l.info1

same-info : (j : ℕ) (a : SurfaceInfo) → SameInfo j a a
same-info j a = record { u = refl; v = refl; point = refl; norm = refl; unit = refl }

through : {j : ℕ} {a b c : SurfaceInfo} → SameInfo j a b → SameInfo j b c → SameInfo j a c
through p q = record { u = p.u ∙ q.u; v = p.v ∙ q.v; point = p.point ∙ q.point; norm = p.norm ∙ q.norm; unit = p.unit ∙ q.unit }

-- ---- a step of one surface, and of the whole
module _ (m j : ℕ) (h : ¬ (j ≡ m)) where
  norm-keeps : (cross norm : List Float) → curve_numbers (next_norm cross norm m) j ≡ curve_numbers norm j
  norm-keeps cross norm =
      let c = vector_numbers cross in
      let e = curve_numbers norm in
      get_or-set_other norm m j (over (minus (product_by (regular real) dot (derivative c) c (m - 1)) (product real (derivative e) e (m - 1))) (e 0)) nan h

  routine-keeps : (s : ℕ → ℕ → Vector3) (center : List Float) (a : SurfaceInfo) → SameInfo j (routine s center a m) a
  unfolding routine next_parameters next_carried next_normal
  routine-keeps s center a =
      let p = next_parameters s center a m in
      let c = next_cross (next_carried s p a.carried m) a.normal.cross m in
      let e = next_norm c a.normal.norm m in
      record {
        u = get_or-set_other a.uv.u m j (parameters s center a m).x nan h;
        v = get_or-set_other a.uv.v m j (parameters s center a m).y nan h;
        point = stored_other a.carried.point m j (along p s m) h;
        norm = norm-keeps c a.normal.norm;
        unit = stored_other a.normal.unit m j (rational vectors quotient (vector_numbers c) (curve_numbers e) m) h;
      }

  step_keeps : (e : ℕ → Vector3) (r : ℕ → Float) (s t : ℕ → ℕ → Vector3) (v : Matrix3) (k : Formed) → Same j (next e r s t v k m) k
  unfolding next next_center
  step_keeps e r s t v k =
      let center = next_center e r v k m in
      record {
        center = stored_other k.center m j (image3 v (right_side e r k m)) h;
        info0 = routine-keeps s center k.info0;
        info1 = routine-keeps t center k.info1;
      }

-- ---- the entries of order 0, and those past the order m, are what they were
module _ (e : ℕ → Vector3) (r : ℕ → Float) (s t : ℕ → ℕ → Vector3) (v : Matrix3) (k : Formed) where
  pub untouched : (m j : ℕ) → (j ≡ 0) ⊎ (m < j) → Same j (after e r s t v k m) k
  unfolding after
  untouched zero j h = record { center = refl; info0 = same-info j k.info0; info1 = same-info j k.info1 }
  untouched (suc m) j h =
      let other : ¬ (j ≡ suc m) = λ q. ⊎_elim (λ w. omega arith) (λ w. omega arith) h in
      let now = step_keeps (suc m) j other e r s t v (after e r s t v k m) in
      let before = untouched m j (⊎_elim (λ w. inl w) (λ w. inr (omega arith)) h) in
      record {
        center = now.center ∙ before.center;
        info0 = through now.info0 before.info0;
        info1 = through now.info1 before.info1;
      }

  -- so the offset of a contact point from the centre, in the matrix of the parameters, and the divisor |cross| are the same at every order
  pub same-offset0 : (m : ℕ) → let x = after e r s t v k m in offset x.center x.info0.carried.point 0 ≡ offset k.center k.info0.carried.point 0
  same-offset0 m = let q = untouched m 0 (inl refl) in ap₂ vectors.minus q.info0.point q.center

  pub same-offset1 : (m : ℕ) → let x = after e r s t v k m in offset x.center x.info1.carried.point 0 ≡ offset k.center k.info1.carried.point 0
  same-offset1 m = let q = untouched m 0 (inl refl) in ap₂ vectors.minus q.info1.point q.center

-- ---- zeros past the order
pub record Zero (j : ℕ) (k : Formed) : Type 0 where
  pub center : vector_numbers k.center j ≡ origin
  pub contact0 : vector_numbers k.info0.carried.point j ≡ origin
  pub contact1 : vector_numbers k.info1.carried.point j ≡ origin
  pub u0 : curve_numbers k.info0.uv.u j ≡ positive_zero
  pub v0 : curve_numbers k.info0.uv.v j ≡ positive_zero
  pub u1 : curve_numbers k.info1.uv.u j ≡ positive_zero
  pub v1 : curve_numbers k.info1.uv.v j ≡ positive_zero

pub origins : (k : ℕ) → k < 21 → vector_numbers (replicate 63 positive_zero) k ≡ origin
origins k h =
    λ i. vector (get_or-replicate 63 (3 * k) positive_zero nan (omega arith) i) (get_or-replicate 63 (3 * k + 1) positive_zero nan (omega arith) i) (get_or-replicate 63 (3 * k + 2) positive_zero nan (omega arith) i)

module _ (j : ℕ) (h : 0 < j) (l : j ≤ 20) where
  other : ¬ (j ≡ 0)
  other q = omega arith

  first-zero : (e : Vector3) → vector_numbers (first_only e) j ≡ origin
  first-zero e = stored_other (replicate 63 positive_zero) 0 j e other ∙ origins j (omega arith)

  first-number-zero : (x : Float) → curve_numbers (first_number_only x) j ≡ positive_zero
  first-number-zero x = get_or-set_other (replicate 21 positive_zero) 0 j x nan other ∙ get_or-replicate 21 j positive_zero nan (omega arith)

module _ (p : Place) where
  start-zero : (j : ℕ) → 0 < j → j ≤ 20 → Zero j (start p)
  unfolding start initial
  start-zero j h l =
      record {
        center = first-zero j h l p.center;
        contact0 = first-zero j h l (jet0 p 0 0);
        contact1 = first-zero j h l (jet1 p 0 0);
        u0 = first-number-zero j h l p.foot0.x;
        v0 = first-number-zero j h l p.foot0.y;
        u1 = first-number-zero j h l p.foot1.x;
        v1 = first-number-zero j h l p.foot1.y;
      }

  pub past-order : (n j : ℕ) → n < j → j ≤ 20 → Zero j (formed p n)
  past-order n j h l =
      let q = untouched (edge p) (radii p) (jet0 p) (jet1 p) (inverse3 (planes p)) (start p) n j (inr h) in
      let z = start-zero j (omega arith) l in
      record {
        center = q.center ∙ z.center;
        contact0 = q.info0.point ∙ z.contact0;
        contact1 = q.info1.point ∙ z.contact1;
        u0 = q.info0.u ∙ z.u0;
        v0 = q.info0.v ∙ z.v0;
        u1 = q.info1.u ∙ z.u1;
        v1 = q.info1.v ∙ z.v1;
      }
