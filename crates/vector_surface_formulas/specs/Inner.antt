-- What the loops share: the terms that are summed; each entry of a formula, from the jets and the entries before it; and a term of the norm.
-- Assumes nothing.
use Rattle.std.specs.Prelude.{cond, ℕ, Float}
use Rattle.ieee_vectors.specs.declared.Vector3.{Vector3}
use Rattle.ieee_vectors.specs.Vectors.{multiple, quotient, cross}
use Rattle.calculus.specs.Kind.{regular}
use Rattle.calculus.specs.Surface
use Rattle.calculus.specs.Surface.{leibniz}
use Rattle.calculus.specs.Rational.{surface_rational_term, surface_rational_entry}
use Rattle.calculus.specs.Norm.{at_end}
use Rattle.formulas.specs.Real.{real}
use Rattle.vector_formulas.specs.declared.VectorFormula.{VectorFormula}
use Rattle.vector_formulas.specs.declared.VectorFormula.TheVariants as vector
use Rattle.vector_formulas.specs.Vector.{vectors}
use Rattle.vector_surface_formulas.specs.declared.entries.Summed.{Summed}
use Rattle.vector_surface_formulas.specs.declared.entries.Summed.TheVariants as summed

-- the term [i][j] at [m][n] of those that are summed: of x and y, of x and the floats w, or of w and the entries y before
abbrev pub term_by : Summed → (ℕ → ℕ → Vector3) → (ℕ → ℕ → Vector3) → (ℕ → ℕ → Float) → ℕ → ℕ → ℕ → ℕ → Vector3
term_by summed.Cross x y w m n i j = leibniz vectors cross x y m n i j
term_by summed.Scaled x y w m n i j = leibniz vectors multiple x w m n i j
term_by summed.Rational x y w m n i j = surface_rational_term vectors quotient w y m n i j

abbrev pub vector_surface_formula : VectorFormula → (ℕ → ℕ → Vector3) → (ℕ → ℕ → Vector3) → (ℕ → ℕ → Float) → (ℕ → ℕ → Vector3) → ℕ → ℕ → Vector3
vector_surface_formula vector.Sum x y w q m n = Surface.sum vectors x y m n
vector_surface_formula vector.Difference x y w q m n = Surface.difference vectors x y m n
vector_surface_formula vector.Cross x y w q m n = Surface.product_by vectors cross x y m n
vector_surface_formula vector.Scaled x y w q m n = Surface.product_by vectors multiple x w m n
vector_surface_formula vector.Rational x y w q m n = surface_rational_entry vectors quotient x w q m n

-- a sum with the term of |s| · |s| at p, but for the first and the last term
abbrev pub with_other : (ℕ → ℕ → Float) → ℕ → ℕ → Float → ℕ × ℕ → Float
with_other q m n sum p = cond (at_end m n p) sum (real.plus sum (leibniz (regular real) real.times q q m n p.0 p.1))
