-- `parts_text::out::report` meets its contract: every text fits. Assumes nothing.
use Rattle.std.proofs.Common.{ap₂, List, ℕ}
use Rattle.parts_text.specs.Reading.{finished}
use Rattle.parts_text.proofs.Puts.{front_length, front_bytes, front_shown}
use Rattle.parts_text.proofs.Fits.{finished-fits}
use Rattle.parts_text.proofs.out.report.Goals as goal

pub returns : goal.returns
returns c =
    let t = finished c.args.state in
    let h = finished-fits c.args.state in
    let w = c.push_finished.ensures in
    (front_shown t _ h w, ap₂ (λ (l : List ℕ) (n : ℕ). record { bytes = l; len = n }) (front_bytes t _ h w) (front_length t _ h w))
