-- What becomes of the fillet's answers: where one is no refusal, each jet goes into the list lent for it. Assumes nothing.
use Rattle.std.specs.Prelude.{List, [], ◌∷◌, ℕ, Float, Result, Ok, Err}
use Rattle.refusals.specs.declared.Refusal.{Refusal}
use Rattle.refusals.specs.Number.{number}
use Rattle.rolling_ball_fillet.specs.declared.CenterContactDers.{CenterContactDers}
use Rattle.rolling_ball_fillet.specs.declared.VderInfoWithCosine.{VderInfoWithCosine}
use Rattle.given.specs.Values.{written}
use Rattle.vector_derivatives.specs.Answer.{vector_curves}
use Rattle.derivatives.specs.Answer.{parameters, curves}
use Rattle.calculus.specs.JetKind.{into_list}

-- ---- the centre, the contacts and their parameters along the edge. Each list is what the jet's `into_list` leaves there
abbrev pub Five : Type 0
Five = List Float × (List Float × (List Float × (List Float × List Float)))

unfoldable pub deliver_contacts : Result CenterContactDers Refusal → Five → ℕ × Five
deliver_contacts (Ok d) out = (
  0,
  (
    (into_list vector_curves d.center_ders out.0).1,
    (
      (into_list vector_curves d.contact0_ders out.1.0).1,
      (
        (into_list vector_curves d.contact1_ders out.1.1.0).1,
        ((into_list parameters d.uv0_ders out.1.1.1.0).1, ((into_list parameters) d.uv1_ders out.1.1.1.1).1),
      ),
    ),
  ),
)
deliver_contacts (Err r) out = (number r, out)

-- ---- the axis, the angle and its cosine. Each list is what is left there, as the contacts' are
abbrev pub Three : Type 0
Three = List Float × (List Float × List Float)

unfoldable pub deliver_info : Result VderInfoWithCosine Refusal → Three → ℕ × Three
deliver_info (Ok a) out =
    (0, ((into_list vector_curves a.info.axis_ders out.0).1, ((into_list curves a.info.angle_ders out.1.0).1, (written (a.cosine ∷ []) out.1.1).1)))
deliver_info (Err r) out = (number r, out)
