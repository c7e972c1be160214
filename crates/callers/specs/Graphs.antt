-- Graphs as a kind of jet: that of the curve which they are. Assumes nothing.
use Rattle.std.specs.Prelude.{ℕ, Float}
use Rattle.calculus.specs.JetKind.{JetKind, jets_of_curves}
use Rattle.derivatives.specs.Answer.{floats}
use Rattle.callers.specs.declared.jets.Graph.{Graph}

abbrev pub graphs : JetKind Float (ℕ → Float) Graph
graphs = jets_of_curves floats (record { order = λ a. a.of.order; stored = λ a. a.of.entries; make = λ n l. record { of = record { order = n; entries = l } } })
