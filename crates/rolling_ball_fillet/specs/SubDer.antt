-- The fillet's partial derivative, m times by u and n times by v (the source's `sub_der_mn`): the vector, or document 01's refusal. Checked as
-- 1, 2, 11, 5; then 6 and 7; 10 last. Assumes nothing.
use Rattle.std.specs.Prelude.{ℕ, suc, Bool, cond, ◌&&◌, ◌||◌, Float, Result, Ok, Err}
use Rattle.std.specs.Float.Ieee.Scale.{finite}
use Rattle.ieee_vectors.specs.declared.Vector3.{Vector3}
use Rattle.refusals.specs.declared.Refusal.{Refusal}
use Rattle.refusals.specs.declared.Refusal.TheVariants.{OrderAbove20, Shape, InputNotFinite, PairNotServed}
use Rattle.vectors.specs.Answers.{returned_vector, vector_from}
use Rattle.calculus.specs.JetKind.{above20}
use Rattle.partials.specs.Pairs.{decided, order_of}
use Rattle.rolling_ball_fillet.specs.Answers.{derivative}
use Rattle.rolling_ball_fillet.specs.Center.{radii, center_contacts, jets_above20, short, finite_given, finite_whole}
use Rattle.rolling_ball_fillet.specs.Partials.{derivative_v, derivative_u_v, derivative_v_v}
use Rattle.rolling_ball_fillet.specs.PartialAnswer.{vder_info}
use Rattle.rolling_ball_fillet.specs.declared.ContactCircle.{ContactCircle}
use Rattle.rolling_ball_fillet.specs.declared.RollingBallFilletSurface.{RollingBallFilletSurface}
use Rattle.rolling_ball_fillet.specs.declared.CenterContactDers.{CenterContactDers}
use Rattle.rolling_ball_fillet.specs.declared.VderInfo.{VderInfo}
use Rattle.rolling_ball_fillet.specs.declared.VderInfoWithCosine.{VderInfoWithCosine}
use Rattle.partials.specs.declared.EdgePartial.{EdgePartial}
use Rattle.partials.specs.declared.EdgePartial.TheVariants as along
use Rattle.partials.specs.declared.Decision.{Decision}
use Rattle.partials.specs.declared.Decision.TheVariants.{Arc, Edge, Unserved}

-- ---- by which formula a partial is worked out
abbrev pub partial_by : EdgePartial → VderInfo → (u s c : Float) → Vector3
partial_by along.V = derivative_v
partial_by along.Uv = derivative_u_v
partial_by along.Vv = derivative_v_v

-- ---- the work: the centre and contacts, then axis and angle, then the partial; the first refusal ends it
abbrev pub from_info : EdgePartial → Result VderInfoWithCosine Refusal → (u s c : Float) → Result Vector3 Refusal
from_info p (Ok a) u s c = returned_vector (partial_by p a.info u s c)
from_info p (Err r) u s c = Err r

abbrev pub from_contacts : EdgePartial → Result CenterContactDers Refusal → (ℕ → Float) → (angle u s c : Float) → Result Vector3 Refusal
from_contacts p (Ok d) r angle u s c = from_info p (vder_info d r angle (order_of p)) u s c
from_contacts p (Err e) r angle u s c = Err e

-- ---- the tests before it. A partial along the edge needs jets of one order more, and cuts them to it
abbrev pub finite_floats : (angle u s c : Float) → Bool
finite_floats angle u s c = finite angle && finite u && finite s && finite c

abbrev pub by_edge : EdgePartial → RollingBallFilletSurface → ContactCircle → (angle u s c : Float) → Result Vector3 Refusal
by_edge p f cc angle u s c =
    let k = suc (order_of p) in
    cond (short f k) (Err Shape)
    (cond (finite_given f cc k && finite_floats angle u s c) (from_contacts p (center_contacts f cc (order_of p)) (radii f) angle u s c) (Err InputNotFinite))

-- a partial along the arc needs none, and cuts nothing: all their entries count
abbrev pub by_arc : ℕ → RollingBallFilletSurface → ContactCircle → (angle u s c : Float) → Result Vector3 Refusal
by_arc m f cc angle u s c = vector_from (finite_whole f cc && finite_floats angle u s c) (derivative cc m s c)

abbrev pub by_decision : Decision → ℕ → RollingBallFilletSurface → ContactCircle → (angle u s c : Float) → Result Vector3 Refusal
by_decision Arc m f cc angle u s c = by_arc m f cc angle u s c
by_decision (Edge p) m f cc angle u s c = by_edge p f cc angle u s c
by_decision Unserved m f cc angle u s c = Err PairNotServed

-- an order of the pair or of a jet is above 20
abbrev pub pair_above20 : RollingBallFilletSurface → (m n : ℕ) → Bool
pair_above20 f m n = above20 m n || jets_above20 f

abbrev pub sub_der_mn : RollingBallFilletSurface → (m n : ℕ) → Float → ContactCircle → (angle s c : Float) → Result Vector3 Refusal
sub_der_mn f m n u cc angle s c = cond (pair_above20 f m n) (Err OrderAbove20) (by_decision (decided m n) m f cc angle u s c)
