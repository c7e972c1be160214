-- What the loops share: each entry of a formula, from the jets and the entries before it. Assumes nothing.
use Rattle.std.specs.Prelude.{ℕ, Float}
use Rattle.ieee.specs.SquareRoot.{square_root}
use Rattle.ieee_vectors.specs.declared.Vector3.{Vector3}
use Rattle.ieee_vectors.specs.Vectors.{multiple, quotient, dot, cross}
use Rattle.calculus.specs.Kind.{regular}
use Rattle.calculus.specs.Curve
use Rattle.calculus.specs.Rational.{rational_entry}
use Rattle.calculus.specs.Norm.{norm_entry}
use Rattle.formulas.specs.Real.{real}
use Rattle.vector_formulas.specs.declared.VectorFormula.{VectorFormula}
use Rattle.vector_formulas.specs.declared.VectorFormula.TheVariants as vector
use Rattle.vector_formulas.specs.declared.entries.NumberFormula.{NumberFormula}
use Rattle.vector_formulas.specs.declared.entries.NumberFormula.TheVariants as number
use Rattle.vector_formulas.specs.Vector.{vectors}

-- of x and y, or of x and the floats w
abbrev pub vector_formula : VectorFormula → (ℕ → Vector3) → (ℕ → Vector3) → (ℕ → Float) → (ℕ → Vector3) → ℕ → Vector3
vector_formula vector.Sum x y w q m = Curve.sum vectors x y m
vector_formula vector.Difference x y w q m = Curve.difference vectors x y m
vector_formula vector.Cross x y w q m = Curve.product_by vectors cross x y m
vector_formula vector.Scaled x y w q m = Curve.product_by vectors multiple x w m
vector_formula vector.Rational x y w q m = rational_entry vectors quotient x w q m

-- of x and y, or of x
abbrev pub number_formula : NumberFormula → (ℕ → Vector3) → (ℕ → Vector3) → (ℕ → Float) → ℕ → Float
number_formula number.Dot x y q m = Curve.product_by (regular real) dot x y m
number_formula number.Norm x y q m = norm_entry real square_root dot x q m
