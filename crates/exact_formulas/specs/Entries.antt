-- What a formula on arrays of exact numbers answers: the entries of the jet, with zeros past its order, or the first refusal. Assumes nothing.
use Rattle.std.specs.Prelude.{List, [], ◌∷◌, ℕ, ℤ, pos, get_or, Result, Ok}
use Rattle.std.specs.Result.{result_and, result_unwrap_or}
use Rattle.refusals.specs.declared.Refusal.{Refusal}
use Rattle.whole.specs.Checked.{Whole}
use Rattle.calculus.specs.Graded.{index}
use Rattle.calculus.specs.Array.{curve_array, surface_array}
use Rattle.calculus.specs.Order.{curve_entries, surface_entries}

-- ---- the entries of an array as a jet, and as a jet of checked numbers
abbrev pub curve_numbers : List ℤ → ℕ → ℤ
curve_numbers l m = get_or l m (pos 0)

abbrev pub surface_numbers : List ℤ → ℕ → ℕ → ℤ
surface_numbers l i j = get_or l (index i j) (pos 0)

abbrev pub curve_values : List ℤ → ℕ → Whole
curve_values l m = Ok (curve_numbers l m)

abbrev pub surface_values : List ℤ → ℕ → ℕ → Whole
surface_values l i j = Ok (surface_numbers l i j)

abbrev pub value_of : Whole → ℤ
value_of w = result_unwrap_or w (pos 0)

-- ---- entries that are formed in the order of work: the first refusal of one of them, or else the answer
unfoldable pub unless_refused : {A : Type 0} → List Whole → Result A Refusal → Result A Refusal
unless_refused [] a = a
unless_refused (w ∷ ws) a = result_and w (unless_refused ws a)

-- ---- the jet f, up to the order n
abbrev pub formed_curve : (ℕ → Whole) → ℕ → Result (List ℤ) Refusal
formed_curve f n = unless_refused (curve_entries f n) (Ok (curve_array (pos 0) (λ m. value_of (f m)) n))

abbrev pub formed_surface : (ℕ → ℕ → Whole) → ℕ → Result (List ℤ) Refusal
formed_surface f n = unless_refused (surface_entries f n) (Ok (surface_array (pos 0) (λ i j. value_of (f i j)) n))
