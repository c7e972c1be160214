-- The entries of arrays of floats as jets, and whether they are finite. Assumes nothing.
use Rattle.std.specs.Prelude.{Bool, true, ◌&&◌, List, ℕ, zero, suc, length, get_or, Float}
use Rattle.std.specs.Float.{nan}
use Rattle.std.specs.Float.Ieee.Scale.{finite}
use Rattle.calculus.specs.Graded.{triangle, index, graded}

-- ---- the entries of an array as a jet. No formula reads past the array's end, where the logic has a NaN
abbrev pub curve_numbers : List Float → ℕ → Float
curve_numbers l m = get_or l m nan

abbrev pub surface_numbers : List Float → ℕ → ℕ → Float
surface_numbers l i j = get_or l (index i j) nan

-- ---- whether the first n pass a test
unfoldable pub all_pass : {A : Type 0} → (A → Bool) → (ℕ → A) → ℕ → Bool
all_pass test a zero = true
all_pass test a (suc n) = all_pass test a n && test (a n)

-- whether the first n numbers are finite, and the entries up to the order n
abbrev pub all_finite : (ℕ → Float) → ℕ → Bool
all_finite = all_pass finite

abbrev pub finite_list : List Float → Bool
finite_list l = all_finite (λ k. get_or l k nan) (length l)

abbrev pub finite_curve : (ℕ → Float) → ℕ → Bool
finite_curve a n = all_finite a (suc n)

abbrev pub finite_surface : (ℕ → ℕ → Float) → ℕ → Bool
finite_surface s n = all_finite (graded s) (triangle (suc n))
