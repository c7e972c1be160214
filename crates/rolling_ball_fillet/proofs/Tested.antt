-- The answer for the centre and the contacts, by the tests that led to it. Assumes nothing.
use Rattle.std.proofs.Common.{◌≡◌, Bool, ℕ, ◌+◌, Err}
use Rattle.calculus.specs.JetKind.{tested}
use Rattle.rolling_ball_fillet.specs.Center.{center_contacts, beyond, short, finite_given, returned_contacts, center_contact_answer}
use Rattle.rolling_ball_fillet.specs.declared.ContactCircle.{ContactCircle}
use Rattle.rolling_ball_fillet.specs.declared.RollingBallFilletSurface.{RollingBallFilletSurface}
use Rattle.rolling_ball_fillet.proofs.Tests.{as-tested}

module _ (f : RollingBallFilletSurface) (cc : ContactCircle) (n : ℕ) where
  -- ---- 1, 2 and 5
  pub asked : {b1 b2 b3 : Bool} → beyond f n ≡ b1 → short f (n + 1) ≡ b2 → finite_given f cc (n + 1) ≡ b3 →
      tested Err b1 b2 b3 (returned_contacts (center_contacts f cc n) n) ≡ center_contact_answer f cc n
  asked = as-tested Err (returned_contacts (center_contacts f cc n) n) (beyond f n) (short f (n + 1)) (finite_given f cc (n + 1))
