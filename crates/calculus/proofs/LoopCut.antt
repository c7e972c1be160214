-- An order that is cut to the last that an array has room for: below it, it is the order itself. Assumes nothing.
use Rattle.std.proofs.Common.{◌≡◌, ap, ap₂, ℕ, ◌+◌, ◌-◌, ◌≤◌, min, arith}

pub within : {n k : ℕ} → n ≤ k → min n k ≡ n
within {n} {k} h = omega (arith, h)

pub uncut : {A : Type 0} (f : ℕ → A) {n k : ℕ} → n ≤ k → f (min n k) ≡ f n
uncut f h = ap f (within h)

-- an entry [m][n] of a surface: m is cut to 20, and n to what is left
pub uncut-entry : {A : Type 0} (f : ℕ → ℕ → A) {m n : ℕ} → m + n ≤ 20 → f (min m 20) (min n (20 - min m 20)) ≡ f m n
uncut-entry f {m} {n} h =
    let p : min m 20 ≡ m = omega (arith, h) in
    let q : min n (20 - min m 20) ≡ n = omega (arith, h) in
    ap₂ f p q
