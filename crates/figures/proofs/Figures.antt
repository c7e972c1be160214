-- Document 01's figures that are to be proved, in its order, each as what a public function's contract says of it. By computation; assumes nothing.
use Rattle.std.proofs.Common.{◌≡◌, refl, false, List, [], ◌∷◌, ◌++◌, map, ℕ, ◌^◌, ◌+◌, ◌-◌, ℤ, pos, take, replicate}
use lib.Ieee.{of_bits, of_int, add, sub, mul, div, neg, eq}
use Rattle.partitions.specs.Parts.{total, fact, parts, divide, runs_from, runs, multiplicity}
use Rattle.partitions.specs.Count.{counted, falls, stirling, stirling_of, total_count}
use Rattle.part_counts.specs.Total.{total_of}
use Rattle.partitions.specs.Walk.{same, from, padded, started, remaining, stepped}
use Rattle.partitions.specs.declared.CompositionIter.{CompositionIter}
use Rattle.partitions.proofs.Walked.{Item, items}
use Rattle.std.specs.Prelude.{Some, None, Result, Ok, Err}
use Rattle.refusals.specs.declared.Refusal.{Refusal}
use Rattle.refusals.specs.declared.Refusal.TheVariants.{OutOfRange}
use Rattle.refusals.specs.Number.{number_of}
use Rattle.whole.specs.Checked.{Whole}
use Rattle.whole.specs.Checked.{formed, divided}
use Rattle.calculus.specs.InTurn.{in_turn, in_rows, along_list}
use Rattle.calculus.specs.Rising.{before}
use Rattle.calculus.specs.Choose.{choose}
use Rattle.calculus.specs.Graded.{triangle, index, place}
use Rattle.calculus.specs.Order.{rows}
use Rattle.calculus.specs.Array.{listed}
use Rattle.calculus.specs.Curve.{product, quotient}
use Rattle.calculus.specs.Surface
use Rattle.calculus.specs.Carry.{digits, factors, through_len, ones}
use Rattle.exact.specs.declared.CurveDerivatives.{CurveDerivatives}
use Rattle.exact.specs.declared.SurfaceDerivatives.{SurfaceDerivatives}
use Rattle.exact.specs.declared.ParameterCurve.{ParameterCurve}
use Rattle.exact_formulas.specs.Kinds.{checked}
use Rattle.exact.specs.Answer.{on_curves, on_surfaces}
use Rattle.exact_formulas.specs.Entries.{unless_refused}
use Rattle.exact.specs.Composite.{along_curve_at, along_curve}
use Rattle.ieee.specs.SquareRoot.{square_root}
use Rattle.ieee_vectors.specs.Vectors.{vector, positive_zero}
use Rattle.ieee_vectors.specs.Matrices.{columns}
use Rattle.ieee_vectors.proofs.Floats.{minus_one, one, three, four, five, seven}
use Rattle.formulas.specs.Numbers.{all_pass}
use Rattle.rolling_ball_fillet.specs.Answers.{rotation_answer}
use Rattle.vector_formulas.specs.Vector.{vector_norm}
use Rattle.vector_derivatives.specs.Answer.{by_norm, vector_curves}
use Rattle.derivatives.specs.Answer.{curves}

-- ---- part lists: `CompositionIter::{try_new, step}`, `multiplicity`, `stirling_number`, `total_multiplicity`

-- `items n w` is what n steps of the walk w hand out, one after the other: each a list, with zeros past it, or that the walk has ended
abbrev hands_out : List ℕ → Item
hands_out l = Ok (Some (padded l))

abbrev says_ended : Item
says_ended = Ok None

-- the walk of a start, which is none where it is refused
abbrev walk_of : Result CompositionIter Refusal → CompositionIter
walk_of (Ok w) = w
walk_of (Err r) = record { order = 0; len = 0; current = replicate 20 0; end = false }

-- the counts of the lists of len parts that are handed out; and counts added, where a refusal stays one
abbrev count_of : ℕ → Item → Result ℕ Refusal
count_of len (Ok (Some l)) = counted (take len l)
count_of len (Ok None) = Ok 0
count_of len (Err r) = Err r

abbrev counts : ℕ → List Item → List (Result ℕ Refusal)
counts len = map (count_of len)

abbrev plus : Result ℕ Refusal → Result ℕ Refusal → Result ℕ Refusal
plus (Ok m) (Ok n) = Ok (m + n)
plus (Ok m) (Err r) = Err r
plus (Err r) n = Err r

unfoldable pub added : List (Result ℕ Refusal) → Result ℕ Refusal
added [] = Ok 0
added (c ∷ l) = plus c (added l)

-- order 5, len 2: (4,1) counts 5, (3,2) counts 10, total 15
pub start-5-2 : number_of (started 5 2) ≡ 0
unfolding started parts
start-5-2 = refl

pub lists-5-2 : items 3 (walk_of (started 5 2)) ≡ hands_out (4 ∷ 1 ∷ []) ∷ hands_out (3 ∷ 2 ∷ []) ∷ says_ended ∷ []
unfolding items started stepped remaining from same parts
lists-5-2 = refl

pub count-4-1 : counted (4 ∷ 1 ∷ []) ≡ Ok 5
unfolding counted falls multiplicity divide runs runs_from total fact
count-4-1 = refl

pub count-3-2 : counted (3 ∷ 2 ∷ []) ≡ Ok 10
unfolding counted falls multiplicity divide runs runs_from total fact
count-3-2 = refl

pub total-5-2 : added (counts 2 (items 2 (walk_of (started 5 2)))) ≡ Ok 15
unfolding items started stepped remaining from same parts counted falls multiplicity divide runs runs_from total fact added
total-5-2 = refl

pub stirling-5-2 : stirling_of 5 2 ≡ Ok 15
unfolding stirling_of stirling
stirling-5-2 = refl

pub total-of-5-2 : total_of 5 2 ≡ Ok 15
unfolding total_of total_count parts multiplicity divide runs runs_from total fact
total-of-5-2 = refl

-- order 4, len 3: (2,1,1) counts 6
pub start-4-3 : number_of (started 4 3) ≡ 0
unfolding started parts
start-4-3 = refl

pub lists-4-3 : items 2 (walk_of (started 4 3)) ≡ hands_out (2 ∷ 1 ∷ 1 ∷ []) ∷ says_ended ∷ []
unfolding items started stepped remaining from same parts
lists-4-3 = refl

pub count-2-1-1 : counted (2 ∷ 1 ∷ 1 ∷ []) ≡ Ok 6
unfolding counted falls multiplicity divide runs runs_from total fact
count-2-1-1 = refl

-- order 20: len 20 has one list, count 1; len 21 is refused 3
pub start-20-20 : number_of (started 20 20) ≡ 0
unfolding started parts
start-20-20 = refl

pub lists-20-20 : items 2 (walk_of (started 20 20)) ≡ hands_out (replicate 20 1) ∷ says_ended ∷ []
unfolding items started stepped remaining from same parts
lists-20-20 = refl

pub count_ones : counted (replicate 20 1) ≡ Ok 1
unfolding counted falls multiplicity divide runs runs_from total fact
count_ones = refl

pub len-21 : number_of (started 20 21) ≡ 3
unfolding started
len-21 = refl

-- ---- exact jets: `combinatorial_derivatives`, `quotient`, `composite_derivatives`

-- the jet of the order n with these n + 1 entries, and zeros after
abbrev pub jet : ℕ → List ℤ → CurveDerivatives
jet n l = record { order = n; entries = l ++ replicate (20 - n) (pos 0) }

abbrev answered : ℕ → List ℤ → Result CurveDerivatives Refusal
answered n l = Ok (jet n l)

-- (1,2,3) times (4,5,6) is (4,13,38); divided by (1,2,3) it is (4,5,6)
pub product-38 : on_curves (product checked) (jet 2 (pos 1 ∷ pos 2 ∷ pos 3 ∷ [])) (jet 2 (pos 4 ∷ pos 5 ∷ pos 6 ∷ [])) ≡ answered 2 (pos 4 ∷ pos 13 ∷ pos 38 ∷ [])
unfolding choose in_turn listed formed unless_refused
product-38 = refl

pub quotient-6 : on_curves (quotient checked) (jet 2 (pos 4 ∷ pos 13 ∷ pos 38 ∷ [])) (jet 2 (pos 1 ∷ pos 2 ∷ pos 3 ∷ [])) ≡ answered 2 (pos 4 ∷ pos 5 ∷ pos 6 ∷ [])
unfolding choose in_turn before listed formed divided unless_refused
quotient-6 = refl

-- the surface [0][0] = 5, [1][0] = 2, [0][1] = 3, [2][0] = 1, [1][1] = 4, [0][2] = 6, by rising total order
abbrev pub surface : List ℤ → SurfaceDerivatives
surface l = record { order = 2; entries = l ++ replicate 225 (pos 0) }

abbrev pub given : SurfaceDerivatives
given = surface (pos 5 ∷ pos 3 ∷ pos 2 ∷ pos 6 ∷ pos 4 ∷ pos 1 ∷ [])

-- the curve u' = 1, u'' = 2, v' = 2, v'' = 1
abbrev pub curve : ParameterCurve
curve = record { order = 2; u = pos 0 ∷ pos 1 ∷ pos 2 ∷ replicate 18 (pos 0); v = pos 0 ∷ pos 2 ∷ pos 1 ∷ replicate 18 (pos 0) }

-- carried (5, 8, 48)
pub carried-48 : along_curve given curve 2 ≡ answered 2 (pos 5 ∷ pos 8 ∷ pos 48 ∷ [])
unfolding unless_refused formed listed index through_len along_list in_turn factors digits ones multiplicity divide runs runs_from total fact parts
carried-48 = refl

-- one order at a time, and zero at order 0
pub carried-at : ◌≡◌ {A = List Whole} (along_curve_at given curve 0 ∷ along_curve_at given curve 1 ∷ along_curve_at given curve 2 ∷ []) (Ok (pos 0) ∷ Ok (pos 8) ∷ Ok (pos 48) ∷ [])
unfolding formed index through_len along_list in_turn factors digits ones multiplicity divide runs runs_from total fact parts
carried-at = refl

-- that surface times itself, and this carried: (25, 80, 608)
abbrev squared : SurfaceDerivatives
squared = surface (pos 25 ∷ pos 30 ∷ pos 20 ∷ pos 78 ∷ pos 52 ∷ pos 18 ∷ [])

pub surface-squared : on_surfaces (Surface.product checked) given given ≡ Ok squared
unfolding unless_refused formed listed rows triangle index place in_turn in_rows choose
surface-squared = refl

pub carried-608 : along_curve squared curve 2 ≡ answered 2 (pos 25 ∷ pos 80 ∷ pos 608 ∷ [])
unfolding unless_refused formed listed index through_len along_list in_turn factors digits ones multiplicity divide runs runs_from total fact parts
carried-608 = refl

-- ---- floats: `absolute_derivatives`, `from_axis_angle`

-- the vectors (3,4,0), (5,5,0) have the norm jet (5, 7)
pub norm-5-7 : by_norm vector_curves curves (λ q. q 0) vector_norm (record { order = 1; entries = three ∷ four ∷ positive_zero ∷ five ∷ five ∷ positive_zero ∷ replicate 57 positive_zero })
    ≡ Ok (record { order = 1; entries = five ∷ seven ∷ replicate 19 positive_zero })
unfolding square_root add sub mul div of_bits of_int before in_turn choose all_pass eq listed
norm-5-7 = refl

-- axis (0,0,1), s = 1, c = 0: columns (0,1,0), (−1,0,0), (0,0,1)
pub quarter-turn : rotation_answer 0 0 0 0 (vector positive_zero positive_zero one) one positive_zero ≡ Ok (columns (vector positive_zero one positive_zero) (vector minus_one positive_zero positive_zero) (vector positive_zero positive_zero one))
unfolding add sub mul neg of_bits
quarter-turn = refl

-- ---- the limit of signed 64 bits: 2^62 times 1 is answered, 2^62 times 2 refused 9

pub times-one : on_curves (product checked) (jet 0 (pos (2 ^ 62) ∷ [])) (jet 0 (pos 1 ∷ [])) ≡ answered 0 (pos (2 ^ 62) ∷ [])
unfolding choose in_turn listed formed unless_refused
times-one = refl

pub times-two : on_curves (product checked) (jet 0 (pos (2 ^ 62) ∷ [])) (jet 0 (pos 2 ∷ [])) ≡ Err OutOfRange
unfolding choose in_turn listed formed unless_refused
times-two = refl
