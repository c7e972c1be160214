-- Document 01's small inputs for the refusals of the centre and the contacts. Assumes nothing.
use Rattle.std.proofs.Common.{◌≡◌, refl, sym, ap, ◌∙◌, true, false, ℕ, suc, ◌+◌, ◌≤◌, arith, ne_eqb, Result, Err}
use mathlib.Core.Bool.{and-false}
use Rattle.refusals.specs.declared.Refusal.{Refusal}
use Rattle.refusals.specs.declared.Refusal.TheVariants.{InputNotFinite, ZeroDeterminant}
use Rattle.std.specs.Float.{nan}
use Rattle.std.specs.Float.Ieee.{of_bits, add, sub, mul, eq}
use Rattle.std.specs.Float.Ieee.Scale.{finite}
use Rattle.ieee_vectors.specs.Vectors.{vector, positive_zero}
use Rattle.ieee_vectors.specs.Matrices.{columns, transposed, determinant3}
use Rattle.ieee_vectors.specs.declared.Vector3.{Vector3}
use Rattle.formulas.specs.Real.{is_zero}
use Rattle.formulas.specs.Numbers.{finite_curve}
use Rattle.formulas.proofs.Finite.{stop}
use Rattle.rodrigues.specs.Rotation.{one}
use Rattle.contacts.specs.Center.{center_contacts as contacts_at}
use Rattle.contacts.proofs.Solved.{planes-zero, solved}
use Rattle.rolling_ball_fillet.specs.Center.{radii, placed, answered_contacts, center_contacts, beyond, short, finite_given, returned_contacts, center_contact_answer}
use Rattle.rolling_ball_fillet.specs.declared.ContactCircle.{ContactCircle}
use Rattle.rolling_ball_fillet.specs.declared.RollingBallFilletSurface.{RollingBallFilletSurface}
use Rattle.rolling_ball_fillet.specs.declared.CenterContactDers.{CenterContactDers}
use Rattle.rolling_ball_fillet.proofs.Tested.{asked}
use Rattle.vector_derivatives.specs.Answer.{vector_curves}

-- ---- 5: a radius that is NaN, of any order up to n + 1
pub radius-nan : (f : RollingBallFilletSurface) (cc : ContactCircle) (n k : ℕ) → beyond f n ≡ false → short f (n + 1) ≡ false →
    k ≤ n + 1 → radii f k ≡ nan → center_contact_answer f cc n ≡ Err InputNotFinite
radius-nan f cc n k b s l e =
    let r : finite_curve (radii f) (n + 1) ≡ false = sym (stop finite (radii f) (suc (n + 1)) (omega arith) (ap finite e)) in
    let g : finite_given f cc (n + 1) ≡ false = simp (r, and-false) in
    sym (asked f cc n b s g)

-- ---- 6: both normals equal. Here the edge goes along x, and both normals are (0, 0, 1)
abbrev x-axis : Vector3
x-axis = vector one positive_zero positive_zero

abbrev z-axis : Vector3
z-axis = vector positive_zero positive_zero one

flat-planes : is_zero (determinant3 (transposed (columns x-axis z-axis z-axis))) ≡ true
unfolding add sub mul eq of_bits
flat-planes = refl

answered : (f : RollingBallFilletSurface) (cc : ContactCircle) (n : ℕ) → Err ZeroDeterminant ≡ contacts_at (placed f cc) n → center_contacts f cc n ≡ Err ZeroDeterminant
unfolding center_contacts
answered f cc n e = ap (answered_contacts n) (sym e)

pub normals-equal : (f : RollingBallFilletSurface) (cc : ContactCircle) (n : ℕ) → vector_curves.numbers f.edge_curve 1 ≡ x-axis → f.normal0 ≡ z-axis → f.normal1 ≡ z-axis →
    beyond f (suc n) ≡ false → short f (suc n + 1) ≡ false → finite_given f cc (suc n + 1) ≡ true → center_contact_answer f cc (suc n) ≡ Err ZeroDeterminant
normals-equal f cc n e p q b s g =
    let o = placed f cc in
    let d : planes-zero o ≡ true = (λ i. is_zero (determinant3 (transposed (columns (e i) (p i) (q i))))) ∙ flat-planes in
    let k : Err ZeroDeterminant ≡ contacts_at o (suc n) = solved o (suc n) (ne_eqb (suc n) 0 (λ e. omega arith)) d refl refl refl refl in
    sym (asked f cc (suc n) b s g)
    ∙ ap (λ (a : Result CenterContactDers Refusal). returned_contacts a (suc n)) (answered f cc (suc n) k)
