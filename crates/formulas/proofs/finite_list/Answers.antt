-- `formulas::finite_list` meets its contract: the test of each, in the list's order, is the test of the first, one more and so on. Assumes nothing.
use Rattle.std.proofs.Common.{length, sym, ap, ◌∙◌, le_refl}
use Rattle.std.specs.List.{list_all}
use Rattle.std.specs.Float.{nan}
use Rattle.std.specs.Float.Ieee.Scale.{finite}
use Rattle.std.proofs.Math.Seq.{take-length}
use Rattle.formulas.proofs.Finite.{passes}
use Rattle.formulas.proofs.finite_list.Goals as goal

pub returns : goal.returns
returns c =
    let l = c.args.a.now in
    c.each_finite.ensures ∙ ap (list_all finite) (sym (take-length l)) ∙ passes finite nan l (length l) (le_refl (length l))
