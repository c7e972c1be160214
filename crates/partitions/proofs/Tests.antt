-- Going by cases on a test inside a statement.
-- Assumes nothing.
use Rattle.std.proofs.Common.{◌≡◌, sym, subst, Bool, true, false, not, ℕ, ◌≤◌, ◌<◌, eq-eqb, ne_eqb, T, leb, eqb, leb→le, eqb→eq, T_not}
use lib.Dec.{nleb→lt, eqb_refl}

by-test : (b : Bool) (P : Bool → Type 0) → (T b → P true) → (T (not b) → P false) → P b
by-test true P f g = f tt
by-test false P f g = g tt

pub by-leb : (m n : ℕ) (P : Bool → Type 0) → (m ≤ n → P true) → (n < m → P false) → P (leb m n)
by-leb m n P f g = by-test (leb m n) P (λ t. f (leb→le m n t)) (λ t. g (nleb→lt m n t))

pub by_eqb : (m n : ℕ) (P : Bool → Type 0) → (m ≡ n → P true) → (¬ (m ≡ n) → P false) → P (eqb m n)
by_eqb m n P f g = by-test (eqb m n) P (λ t. f (eqb→eq m n t)) (λ t. g (λ e. T_not (eqb m n) t (subst (λ k. T (eqb m k)) e (eqb_refl m))))

pub eqb-iff : (a b c d : ℕ) → (a ≡ b → c ≡ d) → (c ≡ d → a ≡ b) → eqb a b ≡ eqb c d
eqb-iff a b c d f g = by_eqb a b (λ t. t ≡ eqb c d) (λ e. sym (eq-eqb c d (f e))) (λ n. sym (ne_eqb c d (λ e. n (g e))))
