-- `partitions::CompositionIter::step` meets its contract: the record moves on where a list is handed out, and else stays. Assumes nothing.
use Rattle.std.proofs.Common.{rules}
use Rattle.partitions.proofs.Stepping.{handed-holds, next-asks, step-moved, step-same}
use Rattle.partitions.proofs.CompositionIter.step.Goals as goal

pub moved-walk-requires : goal.moved-walk-requires
moved-walk-requires c = next-asks (handed-holds c.args.self c.in-Ok-Some.field-0-0 (search rules))

pub returns-in-Ok-Some : goal.returns-in-Ok-Some
returns-in-Ok-Some c = step-moved c.args.self c.in-Ok-Some.field-0-0 c.item-item.ensures (search rules) c.moved-walk.ensures

pub returns-in_default : goal.returns-in_default
returns-in_default c = step-same c.args.self c.item-item.ensures (λ p e. search rules)

pub returns-in_default-2 : goal.returns-in_default-2
returns-in_default-2 c = step-same c.args.self c.item-item.ensures (λ p e. search rules)
