-- The jets that stand for the ball's centre and contacts: cut to an order, and the tests of their orders. Assumes nothing.
use Rattle.std.specs.Prelude.{ℕ, suc, Bool, ◌||◌, ltb}
use Rattle.derivatives.specs.Answer.{parameters}
use Rattle.rolling_ball_fillet.specs.declared.CenterContactDers.{CenterContactDers}
use Rattle.calculus.specs.JetKind.{cut}
use Rattle.vector_derivatives.specs.Answer.{vector_curves}

-- ---- the centre cut to the order n, and the contacts and their parameters one further
abbrev pub cut_ders : CenterContactDers → ℕ → CenterContactDers
cut_ders d n = record {
  center_ders = cut vector_curves d.center_ders n;
  contact0_ders = cut vector_curves d.contact0_ders (suc n);
  contact1_ders = cut vector_curves d.contact1_ders (suc n);
  uv0_ders = cut parameters d.uv0_ders (suc n);
  uv1_ders = cut parameters d.uv1_ders (suc n);
}

-- ---- whether an order of the contacts or their parameters is above 20, or below n
abbrev pub contacts_above20 : CenterContactDers → Bool
contacts_above20 d = ltb 20 d.contact0_ders.order || ltb 20 d.contact1_ders.order || ltb 20 d.uv0_ders.order || ltb 20 d.uv1_ders.order

-- a record that is handed in has its centre's order, up to 19, since its contacts have one more
abbrev pub record_beyond : CenterContactDers → Bool
record_beyond d = ltb 19 d.center_ders.order || contacts_above20 d

abbrev pub short_contacts : CenterContactDers → ℕ → Bool
short_contacts d n = ltb d.contact0_ders.order n || ltb d.contact1_ders.order n || ltb d.uv0_ders.order n || ltb d.uv1_ders.order n
