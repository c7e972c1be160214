-- The graded index: the entries of a surface's jet stand in one list, those of a lower total order first, and i rising within a total
-- order. So a jet of order N is the first (N + 1)(N + 2)/2 of them. Assumes nothing.
use Rattle.std.specs.Prelude.{ℕ, zero, suc, ◌+◌, ◌*◌, ◌/◌}

-- how many entries have a total order below n
unfoldable pub triangle : ℕ → ℕ
triangle n = n * (n + 1) / 2

-- where [i][j] stands
unfoldable pub index : ℕ → ℕ → ℕ
index i j = (i + j) * (i + j + 1) / 2 + i

-- the entry after [i][j], and the entry at each place
abbrev pub after : ℕ → ℕ → ℕ × ℕ
after i zero = (0, suc i)
after i (suc j) = (suc i, j)

unfoldable pub place : ℕ → ℕ × ℕ
place zero = (0, 0)
place (suc k) = after (place k).0 (place k).1

-- a surface's jet by place
abbrev pub graded : {A : Type 0} → (ℕ → ℕ → A) → ℕ → A
graded s k = s (place k).0 (place k).1
