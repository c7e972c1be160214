-- A formula reads only entries of a surface that are formed, or that it forms: what the array holds serves as well. Assumes nothing.
use Rattle.std.proofs.Common.{◌≡◌, refl, sym, ap, ap₂, ◌∙◌, List, ℕ, ◌+◌, ◌≤◌, arith, Float}
use Rattle.ieee_vectors.specs.declared.Vector3.{Vector3}
use Rattle.ieee_vectors.specs.Vectors.{quotient}
use Rattle.calculus.specs.Rising.{before_entry, rising_rows}
use Rattle.calculus.specs.Graded.{index}
use Rattle.calculus.proofs.Related.{same_module}
use Rattle.calculus.proofs.Graded.{room-231}
use Rattle.calculus.proofs.LoopSurfaceFilling.{surface-earlier}
use Rattle.vector_formulas.specs.declared.VectorFormula.{VectorFormula}
use Rattle.vector_formulas.specs.declared.VectorFormula.TheVariants as vector
use Rattle.vector_formulas.specs.Vector.{origin, vectors, vector_surface_numbers}
use Rattle.vector_surface_formulas.specs.Inner.{vector_surface_formula}
use Rattle.formulas.proofs.Curves.{Eq}
use Rattle.calculus.proofs.Quotients.{surface_rational_entry-alike}
use Rattle.vector_formulas.proofs.Vectors.{nowhere, Held, flat-at}
use Rattle.vector_formulas.proofs.VectorSurfaces.{Stored}
use Rattle.vector_surface_formulas.specs.Formulas.{vector_surface_by}

-- ---- a formula reads only entries that are formed, or that it forms
abbrev Same : Vector3 → Vector3 → Type 0
Same a b = a ≡ b

surface-reads : (f : VectorFormula) (a b : ℕ → ℕ → Vector3) (w : ℕ → ℕ → Float) (p q : ℕ → ℕ → Vector3) (N m n : ℕ) → m + n ≤ N →
    ((i j : ℕ) → i + j ≤ N → p i j ≡ q i j) → vector_surface_formula f a b w p m n ≡ vector_surface_formula f a b w q m n
surface-reads vector.Sum a b w p q N m n l h = refl
surface-reads vector.Difference a b w p q N m n l h = refl
surface-reads vector.Cross a b w p q N m n l h = refl
surface-reads vector.Scaled a b w p q N m n l h = refl
surface-reads vector.Rational a b w p q N m n l h =
    surface_rational_entry-alike Eq Same vectors vectors (same_module vectors) quotient quotient (λ a s b t e g. ap₂ quotient e g) N
    a a w w (λ i j l. refl) (λ i j l. refl) m n l p q (λ i j c d. h i j (omega arith))

abbrev pub surface_of : VectorFormula → (ℕ → ℕ → Vector3) → (ℕ → ℕ → Vector3) → (ℕ → ℕ → Float) → ℕ → ℕ → Vector3
surface_of f a b w = rising_rows origin (vector_surface_formula f a b w)

pub surface-formed : (f : VectorFormula) (a b : ℕ → ℕ → Vector3) (w : ℕ → ℕ → Float) {N : ℕ} (l : N ≤ 20) {r : List Float} {m n : ℕ} →
    Held (Stored (surface_of f a b w) l m n) r → m + n ≤ N → surface_of f a b w m n ≡ vector_surface_formula f a b w (vector_surface_numbers r) m n
surface-formed f a b w {N} l {r} {m} {n} s h =
    surface-reads f a b w (before_entry origin (vector_surface_formula f a b w) m n) (vector_surface_numbers r) N m n h
    (λ i j e. surface-earlier 231 nowhere origin N (room-231 N l) (λ (x : Vector3). x) (vector_surface_formula f a b w) s.holds i j e
    ∙ sym (ap (λ (x : List Float). vector_surface_numbers x i j) s.is ∙ flat-at s.list (index i j)))

pub surface-by : (f : VectorFormula) (a b : ℕ → ℕ → Vector3) (w : ℕ → ℕ → Float) → surface_of f a b w ≡ vector_surface_by f a b w
surface-by vector.Sum a b w = refl
surface-by vector.Difference a b w = refl
surface-by vector.Cross a b w = refl
surface-by vector.Scaled a b w = refl
surface-by vector.Rational a b w = refl
