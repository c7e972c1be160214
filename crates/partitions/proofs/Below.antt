-- A test that is computed for every number below a bound, and what it says of each. Assumes nothing.
use Rattle.std.proofs.Common.{sym, subst, Bool, true, false, ℕ, zero, suc, ◌<◌, arith, T}
use Rattle.partitions.proofs.Tests.{by_eqb}

abbrev pub both : Bool → Bool → Bool
both true b = b
both false b = false

abbrev pub below : ℕ → (ℕ → Bool) → Bool
below zero p = true
below (suc n) p = both (p n) (below n p)

pub both_left : (a b : Bool) → T (both a b) → T a
both_left true b t = tt
both_left false b t = t

pub both_right : (a b : Bool) → T (both a b) → T b
both_right true b t = t
both_right false b t = absurd t

pub below_at : (N : ℕ) (p : ℕ → Bool) → T (below N p) → (i : ℕ) → i < N → T (p i)
below_at zero p t i h = absurd (omega arith)
below_at (suc N) p t i h =
    by_eqb i N (λ _. T (p i))
    (λ e. subst (λ x. T (p x)) (sym e) (both_left (p N) (below N p) t))
    (λ n. below_at N p (both_right (p N) (below N p) t) i (omega arith))
