-- The formulas on jets of vectors whose entries are vectors: of x and y, or of x and the floats w. Assumes nothing.
use Rattle.std.specs.Prelude.{ℕ, Float}
use Rattle.ieee_vectors.specs.declared.Vector3.{Vector3}
use Rattle.ieee_vectors.specs.Vectors.{multiple, quotient, cross}
use Rattle.calculus.specs.Curve
use Rattle.calculus.specs.Rational.{rational}
use Rattle.vector_formulas.specs.declared.VectorFormula.{VectorFormula}
use Rattle.vector_formulas.specs.declared.VectorFormula.TheVariants as vector
use Rattle.vector_formulas.specs.Vector.{vectors}

abbrev pub vectors_by : VectorFormula → (ℕ → Vector3) → (ℕ → Vector3) → (ℕ → Float) → ℕ → Vector3
vectors_by vector.Sum x y w m = Curve.sum vectors x y m
vectors_by vector.Difference x y w m = Curve.difference vectors x y m
vectors_by vector.Cross x y w m = Curve.product_by vectors cross x y m
vectors_by vector.Scaled x y w m = Curve.product_by vectors multiple x w m
vectors_by vector.Rational x y w m = rational vectors quotient x w m
