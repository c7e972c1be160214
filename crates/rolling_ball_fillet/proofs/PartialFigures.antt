-- Document 01's small input for a pair that is not served, and each pair that is refused so; computed. Assumes nothing.
use Rattle.std.proofs.Common.{◌≡◌, refl, ap, ◌∙◌, Bool, false, cond, ℕ, Float, Err}
use Rattle.refusals.specs.declared.Refusal.TheVariants.{OrderAbove20, PairNotServed}
use Rattle.rolling_ball_fillet.specs.declared.ContactCircle.{ContactCircle}
use Rattle.rolling_ball_fillet.specs.declared.RollingBallFilletSurface.{RollingBallFilletSurface}
use Rattle.partials.specs.declared.Decision.{Decision}
use Rattle.partials.specs.declared.Decision.TheVariants.{Unserved}
use Rattle.partials.specs.Pairs.{decided}
use Rattle.rolling_ball_fillet.specs.SubDer.{by_decision, pair_above20, sub_der_mn}

module _ (f : RollingBallFilletSurface) (cc : ContactCircle) (angle u s c : Float) where
  pub pair-unserved : (m n : ℕ) → pair_above20 f m n ≡ false → decided m n ≡ Unserved → sub_der_mn f m n u cc angle s c ≡ Err PairNotServed
  pair-unserved m n e d =
      ap (λ (b : Bool). cond b (Err OrderAbove20) (by_decision (decided m n) m f cc angle u s c)) e ∙ ap (λ (x : Decision). by_decision x m f cc angle u s c) d

  -- whatever the floats are, once no order is above 20
  pub pair-2-1 : pair_above20 f 2 1 ≡ false → sub_der_mn f 2 1 u cc angle s c ≡ Err PairNotServed
  pair-2-1 e = pair-unserved 2 1 e refl
