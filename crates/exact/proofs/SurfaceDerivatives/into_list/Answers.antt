-- `exact::SurfaceDerivatives::into_list` meets its contract: the entries are written. Assumes nothing.
use Rattle.std.proofs.Common.{◌≡◌, List, ℤ, ℕ, suc, length, ltb, eqb, ap, sym, ◌∙◌, Ok, ltb-false, eqb-true, eq-eqb}
use Rattle.calculus.specs.Graded.{triangle}
use Rattle.calculus.specs.Order.{surface_entries, overwritten}
use Rattle.calculus.proofs.Passed.{fitting}
use Rattle.calculus.proofs.LoopCut.{uncut}
use Rattle.calculus.proofs.LoopTable.{counted}
use Rattle.calculus.proofs.LoopWriting.{rows-length}
use Rattle.calculus.proofs.LoopWritten.{overwritten-whole}
use Rattle.exact_formulas.specs.Entries.{surface_numbers}
use Rattle.exact.proofs.SurfaceDerivatives.into_list.Goals as goal

pub returns : goal.returns
returns c =
    let n = c.args.self.order in
    let out = c.args.out.now in
    let s = surface_numbers c.args.self.entries in
    let t = fitting (ltb 20 n) (eqb (length out) c.surface_count.result) (sym c.fits.ensures ∙ c.in_ok-fits.was) in
    let b = ltb-false 20 n t.0 in
    let e : length out ≡ triangle (suc n) = eqb-true (length out) c.surface_count.result t.1 ∙ counted b c.surface_count.ensures in
    rw (c.surface_write.ensures, t.0, eq-eqb (length out) (triangle (suc n)) e)
    (ap (λ (x : List ℤ). (Ok tt, x)) (uncut (λ (k : ℕ). overwritten (surface_entries s k) out) b
    ∙ overwritten-whole (surface_entries s n) out (e ∙ sym (rows-length s 0 (suc n)))))
