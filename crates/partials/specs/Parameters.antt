-- The numbers of a rotation's parameters. Assumes nothing.
use Rattle.std.specs.Prelude.{ℕ}
use Rattle.partials.specs.declared.rotations.Parameter.{Parameter}
use Rattle.partials.specs.declared.rotations.Parameter.TheVariants.{X, Y, Z, Angle}

abbrev pub place : Parameter → ℕ
place X = 0
place Y = 1
place Z = 2
place Angle = 3
