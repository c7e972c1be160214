-- `whole::sub` meets its contract. Assumes nothing.
use Rattle.std.proofs.Common.{rules, ◌∙◌, ◌-ℤ◌, FitsSigned, w64}
use Rattle.std.specs.Option.{SomeIff}
use Rattle.whole.proofs.Range.{or_refused}
use Rattle.whole.proofs.sub.Goals as goal

pub returns : goal.returns
returns c =
    let z = c.args.a -ℤ c.args.b in
    let h : SomeIff c.checked_sub.result (FitsSigned w64 z) z = search rules in
    c.ok_or.ensures.value ∙ or_refused c.checked_sub.result z h
