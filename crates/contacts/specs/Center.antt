-- The derivatives of the ball's centre, its contact points and their parameters along the edge (the source's `der_routine` and
-- `sub_center_contacts_ders`). Each operation is rounded in the source's order; refused where a step would meet a zero determinant or a
-- zero divisor. Assumes nothing.
use Rattle.std.specs.Prelude.{cond, List, ℕ, zero, suc, ◌-◌, eqb, Float, Result, Ok, Err}
use Rattle.ieee_vectors.specs.Vectors.{minus, vector, dot}
use Rattle.ieee_vectors.specs.Matrices.{columns, transposed, determinant2, determinant3, inverse3, image3}
use Rattle.ieee_vectors.specs.declared.Vector3.{Vector3}
use Rattle.ieee_vectors.specs.declared.Matrix3.{Matrix3}
use Rattle.calculus.specs.Kind.{regular}
use Rattle.calculus.specs.Curve.{derivative, difference, product_by}
use Rattle.formulas.specs.Real.{real, is_zero}
use Rattle.formulas.specs.Numbers.{curve_numbers}
use Rattle.vector_formulas.specs.Vector.{vectors, vector_numbers, vector_surface_numbers, stored}
use Rattle.surface_info.specs.SurfaceInfo.{first_only, initial, offset, form, routine}
use Rattle.contacts.specs.declared.Place.{Place}
use Rattle.refusals.specs.declared.Refusal.{Refusal}
use Rattle.refusals.specs.declared.Refusal.TheVariants.{ZeroDeterminant, DivisionByZero}
use Rattle.contacts.specs.declared.CenterContacts.{CenterContacts}
use Rattle.surface_info.specs.declared.SurfaceInfo.{SurfaceInfo}
use Rattle.contacts.specs.declared.steps.Formed.{Formed}

-- ---- what is given, as jets
abbrev pub edge : Place → ℕ → Vector3
edge p = vector_numbers p.edge

abbrev pub radii : Place → ℕ → Float
radii p = curve_numbers p.radius

abbrev pub jet0 : Place → ℕ → ℕ → Vector3
jet0 p = vector_surface_numbers p.surface0

abbrev pub jet1 : Place → ℕ → ℕ → Vector3
jet1 p = vector_surface_numbers p.surface1

-- ---- the entries of order 0
unfoldable pub start : Place → Formed
start p = record { center = first_only p.center; info0 = initial (jet0 p) p.foot0 p.normal0; info1 = initial (jet1 p) p.foot1 p.normal1 }

-- ---- one order more: the centre stays in the plane across the edge, and at the radius from both surfaces

-- the edge's direction and both normals, as rows
abbrev pub planes : Place → Matrix3
planes p = transposed (columns (edge p 1) p.normal0 p.normal1)

-- what the known entries give at the order m. The radius enters with a plus sign
abbrev pub radius_side : (ℕ → Float) → (center unit : List Float) → ℕ → Float
radius_side r center unit m = minus (r m) (product_by (regular real) dot (derivative (vector_numbers center)) (vector_numbers unit) (m - 1))

abbrev pub right_side : (ℕ → Vector3) → (ℕ → Float) → Formed → ℕ → Vector3
right_side e r k m =
    vector
    (product_by (regular real) dot (derivative e) (difference vectors e (vector_numbers k.center)) m)
    (radius_side r k.center k.info0.normal.unit m)
    (radius_side r k.center k.info1.normal.unit m)

unfoldable pub next_center : (ℕ → Vector3) → (ℕ → Float) → Matrix3 → Formed → ℕ → List Float
next_center e r inverse k m = stored k.center m (image3 inverse (right_side e r k m))

unfoldable pub next : (ℕ → Vector3) → (ℕ → Float) → (ℕ → ℕ → Vector3) → (ℕ → ℕ → Vector3) → Matrix3 → Formed → ℕ → Formed
next e r s t inverse k m =
    let c = next_center e r inverse k m in
    record { center = c; info0 = routine s c k.info0 m; info1 = routine t c k.info1 m }

-- from the entries k of order 0, those up to the order m
unfoldable pub after : (ℕ → Vector3) → (ℕ → Float) → (ℕ → ℕ → Vector3) → (ℕ → ℕ → Vector3) → Matrix3 → Formed → ℕ → Formed
after e r s t inverse k zero = k
after e r s t inverse k (suc m) = next e r s t inverse (after e r s t inverse k m) (suc m)

abbrev pub formed : Place → ℕ → Formed
formed p n = after (edge p) (radii p) (jet0 p) (jet1 p) (inverse3 (planes p)) (start p) n

-- ---- the answer: the centre, the contact points and their parameters
abbrev pub found : Formed → CenterContacts
found k = record {
  center = k.center;
  contact0 = k.info0.carried.point;
  contact1 = k.info1.carried.point;
  uv0 = k.info0.uv;
  uv1 = k.info1.uv;
}

-- ---- refused for a zero. Every order inverts the same matrices and divides by the same entries of order 0 (proofs/Untouched.antt), first for the
-- centre, then for each surface: so the order 1 meets the first zero, if there is one, and without the order 1 nothing is inverted or divided.
abbrev pub if_regular : {A : Type 0} → (ℕ → ℕ → Vector3) → List Float → SurfaceInfo → Result A Refusal → Result A Refusal
if_regular s center a r =
    cond (is_zero (determinant2 (form s (offset center a.carried.point 0)))) (Err ZeroDeterminant)
    (cond (is_zero (curve_numbers a.normal.norm 0)) (Err DivisionByZero) r)

abbrev pub if_solvable : {A : Type 0} → Place → Formed → Result A Refusal → Result A Refusal
if_solvable p k r =
    cond (is_zero (determinant3 (planes p))) (Err ZeroDeterminant)
    (if_regular (jet0 p) k.center k.info0 (if_regular (jet1 p) k.center k.info1 r))

-- on all floats, finite or not
unfoldable pub center_contacts : Place → ℕ → Result CenterContacts Refusal
center_contacts p n =
    let r = Ok (found (formed p n)) in
    cond (eqb n 0) r (if_solvable p (start p) r)
