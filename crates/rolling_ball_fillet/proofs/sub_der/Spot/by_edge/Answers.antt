-- `Spot::by_edge` meets its contract once the jets are long enough. Assumes nothing.
use Rattle.std.proofs.Common.{◌≡◌, sym, ap, ◌∙◌, Bool, false, cond, ◌&&◌, ℕ, suc, ◌+◌, Float, Err, add-one}
use Rattle.refusals.specs.declared.Refusal.TheVariants.{Shape, InputNotFinite}
use Rattle.partials.specs.Pairs.{order_of}
use Rattle.partials.specs.declared.EdgePartial.{EdgePartial}
use Rattle.rolling_ball_fillet.specs.Center.{radii, center_contacts, short, finite_given}
use Rattle.rolling_ball_fillet.specs.SubDer.{from_contacts, finite_floats, by_edge}
use Rattle.rolling_ball_fillet.specs.declared.ContactCircle.{ContactCircle}
use Rattle.rolling_ball_fillet.specs.declared.RollingBallFilletSurface.{RollingBallFilletSurface}
use Rattle.rolling_ball_fillet.proofs.Tests.{not-refused}
use Rattle.rolling_ball_fillet.proofs.sub_der.Spot.by_edge.Goals as goal

tested : (p : EdgePartial) (f : RollingBallFilletSurface) (cc : ContactCircle) (angle u s c : Float) {k : ℕ} {b : Bool} → k ≡ suc (order_of p) → short f k ≡ false →
    (finite_given f cc k && finite_floats angle u s c) ≡ b →
    cond b (from_contacts p (center_contacts f cc (order_of p)) (radii f) angle u s c) (Err InputNotFinite) ≡ by_edge p f cc angle u s c
tested p f cc angle u s c e g h =
    let n = suc (order_of p) in
    let work = from_contacts p (center_contacts f cc (order_of p)) (radii f) angle u s c in
    let long : short f n ≡ false = ap (short f) (sym e) ∙ g in
    let inputs = ap (λ (j : ℕ). finite_given f cc j && finite_floats angle u s c) (sym e) ∙ h in
    sym
    (ap (λ (b : Bool). cond b (Err Shape) (cond (finite_given f cc n && finite_floats angle u s c) work (Err InputNotFinite))) long
    ∙ ap (λ (b : Bool). cond b work (Err InputNotFinite)) inputs)

pub returns-then-not-finite_edge : goal.returns-then-not-finite_edge
returns-then-not-finite_edge c =
    let s = c.args in
    let w = s.self.now in
    tested s.p w.fillet.now w.circle.now w.angle w.at.u w.at.angle.s w.at.angle.c (add-one c.order-k.result ∙ ap suc c.order-k.ensures.value)
    (not-refused Shape (short w.fillet.now (c.order-k.result + 1)) (sym c.reach.ensures ∙ c.in_ok-reach.was)) (sym c.finite_edge.ensures ∙ c.if-not-finite_edge.true)

pub returns : goal.returns
returns c =
    let s = c.args in
    let w = s.self.now in
    c.along_edge.ensures
    ∙ tested s.p w.fillet.now w.circle.now w.angle w.at.u w.at.angle.s w.at.angle.c (add-one c.order-k.result ∙ ap suc c.order-k.ensures.value)
    (not-refused Shape (short w.fillet.now (c.order-k.result + 1)) (sym c.reach.ensures ∙ c.in_ok-reach.was)) (sym c.finite_edge.ensures ∙ c.if-not-finite_edge.false)
