-- A surface's list is read. Assumes nothing.
use Rattle.std.proofs.Common.{◌≡◌, List, Float, ℕ, suc, length, ltb, eqb, get_or, Result, Ok, refl, ap, sym, ◌∙◌, ltb-false, eqb-true}
use Rattle.std.specs.Float.{nan}
use Rattle.refusals.specs.declared.Refusal.{Refusal}
use Rattle.calculus.specs.Graded.{triangle}
use Rattle.calculus.specs.Array.{surface_array}
use Rattle.calculus.specs.Order.{list_place}
use Rattle.calculus.proofs.Passed.{fitting}
use Rattle.calculus.proofs.Tested.{plain-is}
use Rattle.calculus.proofs.LoopCut.{uncut}
use Rattle.calculus.proofs.LoopBlanks.{read-blanks}
use Rattle.ieee_vectors.specs.Vectors.{positive_zero}
use Rattle.derivatives.specs.Answer.{surfaces}
use Rattle.derivatives.specs.declared.SurfaceDerivatives.{SurfaceDerivatives}
use Rattle.derivatives.proofs.surface.SurfaceDerivativesJet.try_read.Goals as goal

abbrev with : ℕ → List Float → Result SurfaceDerivatives Refusal
with n l = Ok (record { order = n; entries = l })

pub returns : goal.returns
returns c =
    let n = c.args.n in
    let l = c.args.list.now in
    let z = positive_zero in
    let t = fitting (ltb 20 n) (eqb (length l) c.count.result) (sym c.fits.ensures ∙ c.in_ok-fits.was) in
    let b = ltb-false 20 n t.0 in
    let e : length l ≡ triangle (suc n) = eqb-true (length l) c.count.result t.1 ∙ c.count.ensures ∙ uncut (λ (k : ℕ). triangle (suc k)) b in
    ap (with n) (c.surface_read.ensures ∙ uncut (λ (k : ℕ). surface_array z (λ i j. get_or l (list_place k i j) z) k) b ∙ read-blanks z z nan l n e)
    ∙ plain-is surfaces n l b refl e
