-- A surface's entries are written. Assumes nothing.
use Rattle.std.proofs.Common.{◌≡◌, List, Float, ℕ, suc, length, ltb, eqb, Ok, ap, sym, ◌∙◌, arith, ltb-false, eqb-true, eq-eqb}
use Rattle.std.specs.Float.{nan}
use Rattle.calculus.specs.Graded.{triangle}
use Rattle.calculus.specs.Order.{surface_entries, overwritten}
use Rattle.calculus.proofs.Passed.{fitting}
use Rattle.calculus.proofs.LoopCut.{uncut}
use Rattle.calculus.proofs.LoopPlaces.{surface_in}
use Rattle.calculus.proofs.LoopBlanks.{entries-blanks}
use Rattle.calculus.proofs.LoopWriting.{rows-length}
use Rattle.calculus.proofs.LoopWritten.{overwritten-whole}
use Rattle.ieee_vectors.specs.Vectors.{positive_zero}
use Rattle.derivatives.proofs.surface.SurfaceDerivativesJet.try_write.Goals as goal

pub returns : goal.returns
returns c =
    let a = c.args.self.now in
    let n = a.order in
    let out = c.args.out.now in
    let s = surface_in positive_zero a.entries in
    let t = fitting (ltb 20 n) (eqb (length out) c.count.result) (sym c.fits.ensures ∙ c.in_ok-fits.was) in
    let b = ltb-false 20 n t.0 in
    let e : length out ≡ triangle (suc n) = eqb-true (length out) c.count.result t.1 ∙ c.count.ensures ∙ uncut (λ (k : ℕ). triangle (suc k)) b in
    rw (c.surface_write.ensures, t.0, eq-eqb (length out) (triangle (suc n)) e)
    (ap (λ (x : List Float). (Ok tt, x)) (uncut (λ (k : ℕ). overwritten (surface_entries s k) out) b
    ∙ overwritten-whole (surface_entries s n) out (e ∙ sym (rows-length s 0 (suc n)))
    ∙ entries-blanks positive_zero positive_zero nan a.entries n (omega arith) b))
