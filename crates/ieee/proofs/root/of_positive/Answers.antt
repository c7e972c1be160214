-- `root::of_positive` meets its contract: the fields of the bits give the float as a count of the smallest values. Assumes nothing.
use Rattle.std.proofs.Common.{◌≡◌, sym, ◌∙◌, subst, true, false, ◌+◌, ◌-◌, ◌*◌, ◌/◌, ◌%◌, ◌^◌, arith, T}
use lib.Ieee.{Float, binary64, fits, to_bits}
use lib.Ieee.Positive.{positive}
use Rattle.ieee.proofs.Fields.{Read, read, root-at, no_nan}
use Rattle.ieee.proofs.root.of_positive.Goals as goal

-- its fields, since owning an `f64` tells that the format holds it
fields-of : (x : Float) → fits binary64 x ≡ true → T (positive x) → Read x false (to_bits binary64 x / 2 ^ 52) (to_bits binary64 x % 2 ^ 52)
fields-of x held p = read x (subst T (sym held) tt) p

pub float_to_bits-b : goal.float_to_bits-b
float_to_bits-b c = no_nan c.args.x c.requires

pub of_units-requires : goal.of_units-requires
of_units-requires c =
    let fields = fields-of c.args.x c.well_formed.0.1 c.requires in
    ((fields.subnormal c.if-e-eq0.true).0, omega arith, omega arith)

pub returns-then-e-eq0 : goal.returns-then-e-eq0
returns-then-e-eq0 c =
    let fields = fields-of c.args.x c.well_formed.0.1 c.requires in
    c.of_units.ensures
    ∙ sym (root-at c.args.x (to_bits binary64 c.args.x % 2 ^ 52 * 2 ^ 0) c.requires (fields.subnormal c.if-e-eq0.true).1)

pub of_units-requires-2 : goal.of_units-requires-2
of_units-requires-2 c =
    let fields = fields-of c.args.x c.well_formed.0.1 c.requires in
    let f = fields.small in (omega arith, omega arith, omega arith)

pub returns : goal.returns
returns c =
    let fields = fields-of c.args.x c.well_formed.0.1 c.requires in
    let b = to_bits binary64 c.args.x in
    c.of_units-2.ensures
    ∙ sym (root-at c.args.x ((2 ^ 52 + b % 2 ^ 52) * 2 ^ (b / 2 ^ 52 - 1)) c.requires (fields.normal c.if-e-eq0.false))
