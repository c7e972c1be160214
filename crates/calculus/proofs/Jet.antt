-- Jets of fields of any number of variables: entry i₁ .. i_d is the derivative i₁ times by the first, .. i_d times by the
-- last. A curve's are at 1, a surface's at 2. Assumes nothing.
use Rattle.std.proofs.Common.{◌≡◌, ℕ, zero, suc, ◌-◌, ◌≤◌, ℤ, pos}
use Rattle.calculus.proofs.Space.{Space}

abbrev pub Jet : ℕ → Type 0
Jet zero = ℤ
Jet (suc d) = ℕ → Jet d

-- the derivative by variable k
abbrev pub derive : (d : ℕ) → ℕ → Jet d → Jet d
derive zero k s = pos 0
derive (suc d) zero s = λ m. s (suc m)
derive (suc d) (suc k) s = λ m. derive d k (s m)

abbrev pub value : (d : ℕ) → Jet d → ℤ
value zero s = s
value (suc d) s = value d (s 0)

abbrev pub jets : ℕ → Space
jets d = record { Field = Jet d; dim = d; ∂ = derive d; ev = value d }

-- the same entries where the orders sum to at most n
abbrev pub Same : (d : ℕ) → ℕ → Jet d → Jet d → Type 0
Same zero n s t = s ≡ t
Same (suc d) n s t = (i : ℕ) → i ≤ n → Same d (n - i) (s i) (t i)
