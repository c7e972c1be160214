-- The jet of a surface's list is that of `try_read`, or the zero jet. Assumes nothing.
use Rattle.std.proofs.Common.{ap, ◌∙◌}
use Rattle.calculus.specs.JetKind.{jet_of}
use Rattle.vector_derivatives.specs.Answer.{vector_surfaces}
use Rattle.vector_derivatives.proofs.Reading.{or_none}
use Rattle.vector_derivatives.proofs.surface.VectorSurfaceDerivativesJet.read.Goals as goal

pub returns : goal.returns
returns c = c.unwrap_or.ensures ∙ or_none c.try_read.result ∙ ap (jet_of vector_surfaces) c.try_read.ensures
