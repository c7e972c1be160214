-- What the tests before the work answer: the order at which it is done, or a refusal. Assumes nothing.
use Rattle.std.specs.Prelude.{Bool, true, false, not, ◌&&◌, ◌||◌, ℕ, ◌-◌, min, ltb, eqb, List, length, Result, Ok, Err, ⊤}
use Rattle.refusals.specs.declared.Refusal.{Refusal}
use Rattle.calculus.specs.JetKind.{JetKind, tested, above20}

-- on one jet, of the order n, and its derivative's order; f tells whether the entries up to an order are finite
abbrev pub one_at : ℕ → (ℕ → Bool) → Result ℕ Refusal
one_at n f = tested Err (ltb 20 n) false (f n) (Ok n)

abbrev pub less_at : ℕ → (ℕ → Bool) → Result ℕ Refusal
less_at n f = tested Err (ltb 20 n) (eqb n 0) (f n) (Ok (n - 1))

-- on two, of the orders m and n, at the smaller order, and at the order k that is asked
abbrev pub both_at : ℕ → ℕ → (ℕ → Bool) → (ℕ → Bool) → Result ℕ Refusal
both_at m n f g =
    let k = min m n in
    tested Err (above20 m n) false (f k && g k) (Ok k)

abbrev pub asked_at : ℕ → ℕ → ℕ → (ℕ → Bool) → (ℕ → Bool) → Result ℕ Refusal
asked_at m n k f g = tested Err (above20 m n || ltb 20 k) (ltb (min m n) k) (f k && g k) (Ok k)

-- a jet into a list, its entries as they stand
abbrev pub copied_into : {X E J : Type 0} → JetKind X E J → J → List X → Result ⊤ Refusal × List X
copied_into K a out =
    let n = K.order a in
    tested (λ (c : Refusal). (Err c, out)) (ltb 20 n) (not (eqb (length out) (K.count n))) true (Ok tt, K.list (K.numbers a) n)
