-- What `sub_center_contacts_ders` returns: document 01's refusal, or the derivatives of the ball's centre, its contact points and their parameters
-- along the edge. Checked as 1, 2, 5; then 6 and 7; 10 last. Assumes nothing.
use Rattle.std.specs.Prelude.{Bool, cond, ◌&&◌, ◌||◌, ℕ, ◌+◌, ltb, Float, Result, Ok, Err}
use Rattle.ieee_vectors.specs.Finite.{finite_vector}
use Rattle.calculus.specs.JetKind.{finite_up_to, tested, above20}
use Rattle.contacts.specs.Center.{center_contacts as contacts_at}
use Rattle.contacts.specs.declared.Place.{Place}
use Rattle.contacts.specs.declared.CenterContacts.{CenterContacts}
use Rattle.rolling_ball_fillet.specs.Answers.{finite_circle}
use Rattle.rolling_ball_fillet.specs.declared.ContactCircle.{ContactCircle}
use Rattle.rolling_ball_fillet.specs.declared.RollingBallFilletSurface.{RollingBallFilletSurface}
use Rattle.rolling_ball_fillet.specs.declared.CenterContactDers.{CenterContactDers}
use Rattle.refusals.specs.declared.Refusal.{Refusal}
use Rattle.refusals.specs.declared.Refusal.TheVariants.{AnswerNotFinite}
use Rattle.derivatives.specs.Answer.{curves, parameters}
use Rattle.vector_derivatives.specs.Answer.{vector_curves, vector_surfaces}

-- ---- the derivatives of the radius
abbrev pub radii : RollingBallFilletSurface → ℕ → Float
radii f = curves.numbers f.radius

-- ---- what is given, as arrays
abbrev pub placed : RollingBallFilletSurface → ContactCircle → Place
placed f cc = record {
  edge = f.edge_curve.entries;
  radius = f.radius.entries;
  surface0 = f.surface0.entries;
  surface1 = f.surface1.entries;
  center = cc.center;
  foot0 = cc.contact_point0.uv;
  foot1 = cc.contact_point1.uv;
  normal0 = f.normal0;
  normal1 = f.normal1;
}

-- ---- the five jets: the centre's of order n, the others of order n + 1, whose last entry is zero
abbrev pub ders_of : ℕ → CenterContacts → CenterContactDers
ders_of n a = record {
  center_ders = record { order = n; entries = a.center };
  contact0_ders = record { order = n + 1; entries = a.contact0 };
  contact1_ders = record { order = n + 1; entries = a.contact1 };
  uv0_ders = record { order = n + 1; u = a.uv0.u; v = a.uv0.v };
  uv1_ders = record { order = n + 1; u = a.uv1.u; v = a.uv1.v };
}

abbrev pub answered_contacts : ℕ → Result CenterContacts Refusal → Result CenterContactDers Refusal
answered_contacts n (Ok a) = Ok (ders_of n a)
answered_contacts n (Err r) = Err r

-- on all floats, finite or not
unfoldable pub center_contacts : RollingBallFilletSurface → ContactCircle → ℕ → Result CenterContactDers Refusal
center_contacts f cc n = answered_contacts n (contacts_at (placed f cc) n)

-- ---- the tests before the work: the jets have the order n + 1 or more, and are finite up to it
abbrev pub jets_above20 : RollingBallFilletSurface → Bool
jets_above20 f = above20 f.edge_curve.order f.radius.order || above20 f.surface0.order f.surface1.order

abbrev pub beyond : RollingBallFilletSurface → ℕ → Bool
beyond f n = ltb 19 n || jets_above20 f

abbrev pub short : RollingBallFilletSurface → ℕ → Bool
short f n = (ltb f.edge_curve.order n || ltb f.radius.order n) || (ltb f.surface0.order n || ltb f.surface1.order n)

-- the edge up to the order e, the radius up to r, and the surfaces up to s and t
abbrev pub finite_parts : RollingBallFilletSurface → ContactCircle → (e r s t : ℕ) → Bool
finite_parts f cc e r s t =
    (finite_circle cc && (finite_vector f.normal0 && finite_vector f.normal1))
    && ((finite_up_to vector_curves f.edge_curve e && finite_up_to curves f.radius r) && (finite_up_to vector_surfaces f.surface0 s && finite_up_to vector_surfaces f.surface1 t))

abbrev pub finite_given : RollingBallFilletSurface → ContactCircle → ℕ → Bool
finite_given f cc n = finite_parts f cc n n n n

-- all entries
abbrev pub finite_whole : RollingBallFilletSurface → ContactCircle → Bool
finite_whole f cc = finite_parts f cc f.edge_curve.order f.radius.order f.surface0.order f.surface1.order

-- ---- and after it
abbrev pub finite_contacts : CenterContactDers → ℕ → Bool
finite_contacts d n =
    (finite_up_to vector_curves d.center_ders n && (finite_up_to vector_curves d.contact0_ders (n + 1) && finite_up_to vector_curves d.contact1_ders (n + 1)))
    && (finite_up_to parameters d.uv0_ders (n + 1) && finite_up_to parameters d.uv1_ders (n + 1))

abbrev pub finite_ders : ℕ → CenterContactDers → Result CenterContactDers Refusal
finite_ders n d = cond (finite_contacts d n) (Ok d) (Err AnswerNotFinite)

abbrev pub returned_contacts : Result CenterContactDers Refusal → ℕ → Result CenterContactDers Refusal
returned_contacts (Ok d) n = finite_ders n d
returned_contacts (Err r) n = Err r

abbrev pub center_contact_answer : RollingBallFilletSurface → ContactCircle → ℕ → Result CenterContactDers Refusal
center_contact_answer f cc n =
    tested Err (beyond f n) (short f (n + 1)) (finite_given f cc (n + 1)) (returned_contacts (center_contacts f cc n) n)
