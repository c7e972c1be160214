-- A list that is read with no refusal: the zero jet stands where there is one. Assumes nothing.
use Rattle.std.proofs.Common.{◌≡◌, refl}
use Rattle.std.specs.Prelude.{Result, Ok, Err}
use Rattle.std.specs.Result.{result_unwrap_or}
use Rattle.refusals.specs.declared.Refusal.{Refusal}
use Rattle.calculus.specs.JetKind.{jet_of}
use Rattle.vector_derivatives.specs.declared.VectorSurfaceDerivatives.{VectorSurfaceDerivatives}
use Rattle.vector_derivatives.specs.Answer.{vector_surfaces}

pub or_none : (r : Result VectorSurfaceDerivatives Refusal) → result_unwrap_or r vector_surfaces.none ≡ jet_of vector_surfaces r
or_none (Ok a) = refl
or_none (Err c) = refl
