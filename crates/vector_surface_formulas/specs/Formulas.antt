-- The formulas on jets of surfaces of vectors whose entries are vectors: of x and y, or of x and the floats w; and the norm. Assumes nothing.
use Rattle.std.specs.Prelude.{ℕ, Float}
use Rattle.ieee.specs.SquareRoot.{square_root}
use Rattle.ieee_vectors.specs.declared.Vector3.{Vector3}
use Rattle.ieee_vectors.specs.Vectors.{multiple, quotient, dot, cross}
use Rattle.calculus.specs.Surface
use Rattle.calculus.specs.Rational.{surface_rational}
use Rattle.calculus.specs.Norm.{surface_norm}
use Rattle.formulas.specs.Real.{real}
use Rattle.vector_formulas.specs.declared.VectorFormula.{VectorFormula}
use Rattle.vector_formulas.specs.declared.VectorFormula.TheVariants as vector
use Rattle.vector_formulas.specs.Vector.{vectors}

abbrev pub vector_surface_by : VectorFormula → (ℕ → ℕ → Vector3) → (ℕ → ℕ → Vector3) → (ℕ → ℕ → Float) → ℕ → ℕ → Vector3
vector_surface_by vector.Sum x y w m n = Surface.sum vectors x y m n
vector_surface_by vector.Difference x y w m n = Surface.difference vectors x y m n
vector_surface_by vector.Cross x y w m n = Surface.product_by vectors cross x y m n
vector_surface_by vector.Scaled x y w m n = Surface.product_by vectors multiple x w m n
vector_surface_by vector.Rational x y w m n = surface_rational vectors quotient x w m n

abbrev pub vector_surface_norm : (ℕ → ℕ → Vector3) → ℕ → ℕ → Float
vector_surface_norm = surface_norm real square_root dot
