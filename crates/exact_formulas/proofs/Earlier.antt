-- A formula reads of the entries before it only those that are formed: what the array holds serves as well. Assumes nothing.
use Rattle.std.proofs.Common.{◌≡◌, refl, ap, List, ℕ, ◌+◌, ◌≤◌, ◌<◌, le_refl, arith, ℤ, pos}
use Rattle.std.specs.Prelude.{Ok}
use Rattle.whole.specs.Checked.{Whole}
use Rattle.calculus.specs.Rising.{before, rising, before_entry, rising_rows}
use Rattle.calculus.proofs.Related.{same}
use Rattle.calculus.proofs.Alike.{dividend-alike, surface-dividend-alike}
use Rattle.calculus.proofs.Graded.{room-231}
use Rattle.calculus.proofs.LoopFilling.{curve-earlier}
use Rattle.calculus.proofs.LoopSurfaceFilling.{surface-earlier}
use Rattle.calculus.specs.declared.Operation.{Operation}
use Rattle.calculus.specs.declared.Operation.TheVariants.{Sum, Difference, Product, Quotient}
use Rattle.exact_formulas.specs.Kinds.{checked}
use Rattle.exact_formulas.specs.Entries.{curve_values, surface_values}
use Rattle.exact_formulas.specs.Inner.{curve_formula, surface_formula}
use Rattle.exact_formulas.proofs.Progress.{CurveProgress, SurfaceProgress}

abbrev Eq : Whole → Whole → Type 0
Eq a b = a ≡ b

curve-reads : (op : Operation) (a b p q : ℕ → Whole) (m : ℕ) → ((i : ℕ) → i < m → p i ≡ q i) → curve_formula op a b p m ≡ curve_formula op a b q m
curve-reads Sum a b p q m h = refl
curve-reads Difference a b p q m h = refl
curve-reads Product a b p q m h = refl
curve-reads Quotient a b p q m h =
    ap (λ (x : Whole). checked.over x (b 0)) (dividend-alike Eq checked checked (same checked) m a b a b (λ i l. refl) (λ i l. refl) m (le_refl m) p q h)

-- the entries of the jet that a formula forms, of which the array holds those before m
abbrev pub curve_rising : Operation → (ℕ → Whole) → (ℕ → Whole) → ℕ → Whole
curve_rising op a b = rising checked.zero (curve_formula op a b)

pub curve-formed : (op : Operation) (a b : ℕ → Whole) {n m : ℕ} {r : List ℤ} → CurveProgress (curve_rising op a b) n m r → m ≤ 20 →
    curve_rising op a b m ≡ curve_formula op a b (curve_values r) m
curve-formed op a b {n} {m} {r} p l =
    curve-reads op a b (before checked.zero (curve_formula op a b) m) (curve_values r) m
    (λ i h. curve-earlier 21 (pos 0) (pos 0) Ok (curve_formula op a b) p.stored i (omega arith))

-- ---- the same for surfaces, up to the order N
surface-reads : (op : Operation) (a b p q : ℕ → ℕ → Whole) (N m n : ℕ) → m + n ≤ N → ((i j : ℕ) → i + j ≤ N → p i j ≡ q i j) →
    surface_formula op a b p m n ≡ surface_formula op a b q m n
surface-reads Sum a b p q N m n l h = refl
surface-reads Difference a b p q N m n l h = refl
surface-reads Product a b p q N m n l h = refl
surface-reads Quotient a b p q N m n l h =
    ap (λ (x : Whole). checked.over x (b 0 0))
    (surface-dividend-alike Eq checked checked (same checked) N a b a b (λ i j k. refl) (λ i j k. refl) m n l p q (λ i j k e. h i j e) (λ j k. h m j (omega arith)))

abbrev pub surface_rising : Operation → (ℕ → ℕ → Whole) → (ℕ → ℕ → Whole) → ℕ → ℕ → Whole
surface_rising op a b = rising_rows checked.zero (surface_formula op a b)

pub surface-formed : (op : Operation) (a b : ℕ → ℕ → Whole) {N m n : ℕ} {r : List ℤ} → SurfaceProgress (surface_rising op a b) N m n r → m + n ≤ N →
    surface_rising op a b m n ≡ surface_formula op a b (surface_values r) m n
surface-formed op a b {N} {m} {n} {r} p h =
    surface-reads op a b (before_entry checked.zero (surface_formula op a b) m n) (surface_values r) N m n h
    (λ i j e. surface-earlier 231 (pos 0) (pos 0) N (room-231 N p.high) Ok (surface_formula op a b) p.stored i j e)
