-- A formula on jets of vectors reads of the entries before it only those that are formed: what the array holds serves as well.
-- Assumes nothing.
use Rattle.std.proofs.Common.{◌≡◌, refl, ap₂, List, ℕ, zero, suc, ◌-◌, ◌≤◌, zero-le, le_refl, arith, Float}
use lib.Ieee.{nan}
use Rattle.ieee.specs.SquareRoot.{square_root}
use Rattle.ieee_vectors.specs.declared.Vector3.{Vector3}
use Rattle.ieee_vectors.specs.Vectors.{quotient, dot, positive_zero}
use Rattle.calculus.specs.Choose.{choose}
use Rattle.calculus.specs.Rising.{before, rising}
use Rattle.calculus.proofs.Related.{same_module, in_turn-alike}
use Rattle.calculus.proofs.LoopFilling.{curve-earlier}
use Rattle.vector_formulas.specs.declared.VectorFormula.{VectorFormula}
use Rattle.vector_formulas.specs.declared.VectorFormula.TheVariants as vector
use Rattle.vector_formulas.specs.declared.entries.NumberFormula.{NumberFormula}
use Rattle.vector_formulas.specs.declared.entries.NumberFormula.TheVariants as number
use Rattle.formulas.specs.Real.{real}
use Rattle.calculus.specs.Norm.{norm_term, norm_entry}
use Rattle.formulas.specs.Numbers.{curve_numbers}
use Rattle.vector_formulas.specs.Vector.{origin, vectors, vector_numbers}
use Rattle.vector_formulas.specs.Formulas.{vectors_by}
use Rattle.vector_formulas.specs.Inner.{vector_formula, number_formula}
use Rattle.calculus.proofs.Quotients.{rational_entry-alike}
use Rattle.formulas.proofs.Curves.{Eq, CurveFilled}
use Rattle.vector_formulas.proofs.Vectors.{VectorsFilled, vectors-earlier}

abbrev Same : Vector3 → Vector3 → Type 0
Same a b = a ≡ b

vectors-read : (f : VectorFormula) (a b : ℕ → Vector3) (w : ℕ → Float) (p q : ℕ → Vector3) (m : ℕ) → ((i : ℕ) → i ≤ m → p i ≡ q i) →
    vector_formula f a b w p m ≡ vector_formula f a b w q m
vectors-read vector.Sum a b w p q m h = refl
vectors-read vector.Difference a b w p q m h = refl
vectors-read vector.Cross a b w p q m h = refl
vectors-read vector.Scaled a b w p q m h = refl
vectors-read vector.Rational a b w p q m h =
    rational_entry-alike Eq Same vectors vectors (same_module vectors) quotient quotient (λ a s b t e g. ap₂ quotient e g) m
    a a w w (λ i l. refl) (λ i l. refl) m (le_refl m) p q h

norm-reads : (a : ℕ → Vector3) (p q : ℕ → Float) (m : ℕ) → ((i : ℕ) → i ≤ m → p i ≡ q i) →
    norm_entry real square_root dot a p m ≡ norm_entry real square_root dot a q m
norm-reads a p q zero h = refl
norm-reads a p q (suc m) h =
    ap₂ real.over
    (in_turn-alike Eq Eq real.plus real.plus (λ a c b d e g. ap₂ real.plus e g)
    (norm_term real square_root dot a p m) (norm_term real square_root dot a q m) (suc m) refl
    (λ i l. ap₂ (λ (x y : Float). real.times (real.minus (dot (a (suc i)) (a (m - i))) (real.times x y)) (real.of_nat (choose m i)))
    (h (suc i) (omega arith)) (h (m - i) (omega arith))))
    (h 0 zero-le)

numbers-read : (f : NumberFormula) (a b : ℕ → Vector3) (p q : ℕ → Float) (m : ℕ) → ((i : ℕ) → i ≤ m → p i ≡ q i) →
    number_formula f a b p m ≡ number_formula f a b q m
numbers-read number.Dot a b p q m h = refl
numbers-read number.Norm a b p q m h = norm-reads a p q m h

-- the entries of the jet that a formula forms, of which the array holds those before m
abbrev pub vectors_of : VectorFormula → (ℕ → Vector3) → (ℕ → Vector3) → (ℕ → Float) → ℕ → Vector3
vectors_of f a b w = rising origin (vector_formula f a b w)

pub vectors-formed : (f : VectorFormula) (a b : ℕ → Vector3) (w : ℕ → Float) {r : List Float} {m : ℕ} → VectorsFilled (vectors_of f a b w) m r → m ≤ 20 →
    vectors_of f a b w m ≡ vector_formula f a b w (vector_numbers r) m
vectors-formed f a b w {r} {m} s l =
    vectors-read f a b w (before origin (vector_formula f a b w) m) (vector_numbers r) m
    (λ i h. vectors-earlier (vector_formula f a b w) s i (omega arith))

pub vectors-by : (f : VectorFormula) (a b : ℕ → Vector3) (w : ℕ → Float) → vectors_of f a b w ≡ vectors_by f a b w
vectors-by vector.Sum a b w = refl
vectors-by vector.Difference a b w = refl
vectors-by vector.Cross a b w = refl
vectors-by vector.Scaled a b w = refl
vectors-by vector.Rational a b w = refl

abbrev pub numbers_of : NumberFormula → (ℕ → Vector3) → (ℕ → Vector3) → ℕ → Float
numbers_of f a b = rising positive_zero (number_formula f a b)

pub numbers-formed : (f : NumberFormula) (a b : ℕ → Vector3) {r : List Float} {m : ℕ} → CurveFilled (numbers_of f a b) m r → m ≤ 20 →
    numbers_of f a b m ≡ number_formula f a b (curve_numbers r) m
numbers-formed f a b {r} {m} s l =
    numbers-read f a b (before positive_zero (number_formula f a b) m) (curve_numbers r) m
    (λ i h. curve-earlier 21 nan positive_zero (λ (x : Float). x) (number_formula f a b) s i (omega arith))
