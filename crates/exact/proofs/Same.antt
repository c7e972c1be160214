-- Jets that agree up to the order have the same answer. Assumes nothing.
use Rattle.std.proofs.Common.{◌≡◌, ap, ap₂, List, ℕ, suc, ◌+◌, ◌≤◌, arith, ℤ, pos}
use Rattle.std.specs.Prelude.{Ok}
use Rattle.whole.specs.Checked.{Whole}
use Rattle.calculus.specs.Graded.{triangle, place, graded}
use Rattle.calculus.proofs.Graded.{place-order}
use Rattle.calculus.proofs.Same.{curve-entries-same, surface-entries-same, filled-same}
use Rattle.exact_formulas.specs.Entries.{value_of, unless_refused}
use Rattle.exact.specs.Names.{answered_curve, answered_surface}
use Rattle.exact.specs.Answer.{curve_answer, surface_answer}

pub curve-same : (n : ℕ) {a b : ℕ → ℤ} → ((m : ℕ) → m ≤ n → a m ≡ b m) → answered_curve n a ≡ answered_curve n b
curve-same n {a} {b} h = ap (λ (l : List ℤ). Ok (record { order = n; entries = l })) (filled-same 21 (suc n) (pos 0) a b (λ k l. h k (omega arith)))

pub surface-same : (n : ℕ) {s t : ℕ → ℕ → ℤ} → ((i j : ℕ) → i + j ≤ n → s i j ≡ t i j) → answered_surface n s ≡ answered_surface n t
surface-same n {s} {t} h =
    ap (λ (l : List ℤ). Ok (record { order = n; entries = l }))
    (filled-same 231 (triangle (suc n)) (pos 0) (graded s) (graded t) (λ k l. h (place k).0 (place k).1 (place-order n k l)))

pub curve-answer-same : (n : ℕ) {f g : ℕ → Whole} → ((m : ℕ) → m ≤ n → f m ≡ g m) → curve_answer f n ≡ curve_answer g n
curve-answer-same n h = ap₂ unless_refused (curve-entries-same n h) (curve-same n (λ m l. ap value_of (h m l)))

pub surface-answer-same : (n : ℕ) {f g : ℕ → ℕ → Whole} → ((i j : ℕ) → i + j ≤ n → f i j ≡ g i j) → surface_answer f n ≡ surface_answer g n
surface-answer-same n h = ap₂ unless_refused (surface-entries-same n h) (surface-same n (λ i j l. ap value_of (h i j l)))
