-- `read` of surfaces of vectors meets its contract. Assumes nothing.
use Rattle.std.proofs.Common.{ap, ◌∙◌}
use Rattle.calculus.specs.JetKind.{jet_of}
use Rattle.vector_derivatives.specs.Answer.{vector_surfaces}
use Rattle.vector_derivatives.proofs.Reading.{or_none}
use Rattle.vector_derivatives.proofs.over_lists.VectorSurfaceDerivativesListedF64.read.Goals as goal

pub returns : goal.returns
returns c = c.unwrap_or.ensures ∙ or_none c.of_list.result ∙ ap (jet_of vector_surfaces) c.of_list.ensures
