-- The orders of several jets. Assumes nothing.
use Rattle.std.specs.Prelude.{Bool, true, false, cond, List, [], ◌∷◌, ℕ, min, ltb}

-- one is above 20; and the smallest of orders up to 20
unfoldable pub some_above20 : List ℕ → Bool
some_above20 [] = false
some_above20 (n ∷ ns) = cond (ltb 20 n) true (some_above20 ns)

unfoldable pub smallest : List ℕ → ℕ
smallest [] = 20
smallest (n ∷ ns) = min n (smallest ns)
