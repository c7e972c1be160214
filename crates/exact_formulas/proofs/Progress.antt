-- A loop that forms the entries of a jet in the order of work, stores each, and stops at the first that is refused. Assumes nothing.
use Rattle.std.proofs.Common.{◌≡◌, sym, ap, ◌∙◌, List, ℕ, suc, ◌+◌, ◌≤◌, ◌<◌, arith, ℤ, pos, set, replicate, w64, SFits, to_z, of_z, to_z-of_z}
use Rattle.std.specs.Prelude.{Result, Ok, Err}
use Rattle.refusals.specs.declared.Refusal.{Refusal}
use Rattle.whole.specs.Checked.{Whole}
use Rattle.calculus.specs.Graded.{index}
use Rattle.calculus.specs.Array.{curve_array, surface_array}
use Rattle.calculus.proofs.Graded.{room-231}
use Rattle.calculus.proofs.LoopFilling.{CurveStored, curve-none, curve-more, curve-all}
use Rattle.calculus.proofs.LoopSurfaceFilling.{SurfaceStored, surface-none, surface-more, surface-next, surface-all}
use Rattle.exact_formulas.specs.Entries.{value_of, unless_refused, formed_curve, formed_surface}
use Rattle.calculus.proofs.LoopLeft as order
use Rattle.exact_formulas.proofs.Work as work

-- ---- curves: the entries of the jet f before m are numbers, and stand in the array
abbrev pub CurveFilled : (ℕ → Whole) → ℕ → List ℤ → Type 0
CurveFilled f = CurveStored 21 (pos 0) (pos 0) (λ k v. f k ≡ Ok v)

pub record CurveProgress (f : ℕ → Whole) (n m : ℕ) (r : List ℤ) : Type 0 where
  pub stored : CurveFilled f m r
  pub left : unless_refused (order.curve_left f n m) (Ok (curve_array (pos 0) (λ k. value_of (f k)) n)) ≡ formed_curve f n
  pub upto : m ≤ suc n

pub curve-begins : (f : ℕ → Whole) (n : ℕ) → CurveProgress f n 0 (replicate 21 (pos 0))
curve-begins f n = record {
  stored = curve-none 21 (pos 0) (pos 0) (λ k v. f k ≡ Ok v);
  left = ap (λ (l : List Whole). unless_refused l (Ok (curve_array (pos 0) (λ k. value_of (f k)) n))) (sym (order.curve-start f n));
  upto = omega arith;
}

module _ {f : ℕ → Whole} {n m : ℕ} {r : List ℤ} (p : CurveProgress f n m r) where
  abbrev answer : Result (List ℤ) Refusal
  answer = Ok (curve_array (pos 0) (λ k. value_of (f k)) n)

  -- the number is stored as the machine reads it back from its bits
  pub curve-goes-on : {v : ℤ} → n ≤ 20 → m ≤ n → SFits w64 v → f m ≡ Ok v → CurveProgress f n (m + 1) (set r m (to_z w64 (of_z w64 v)))
  curve-goes-on {v} b l fv e = record {
    stored = curve-more 21 (pos 0) (pos 0) (λ k v. f k ≡ Ok v) (to_z w64 (of_z w64 v)) p.stored (omega arith) (e ∙ ap Ok (sym (to_z-of_z fv)));
    left = work.pass answer e (order.curve-next f n m l) ∙ p.left;
    upto = omega arith;
  }

  pub curve-stops : {c : Refusal} → m ≤ n → f m ≡ Err c → Err c ≡ formed_curve f n
  curve-stops l e = work.stop answer e (order.curve-next f n m l) ∙ p.left

  pub curve-filled : n < m → r ≡ curve_array (pos 0) (λ k. value_of (f k)) n
  curve-filled l =
      let e : m ≡ suc n = omega (arith, p.upto) in
      curve-all 21 (pos 0) (pos 0) (λ k v. f k ≡ Ok v) (λ k. value_of (f k)) (λ k v q. sym (ap value_of q)) (suc n) p.stored e

  pub curve-ends : n < m → Ok r ≡ formed_curve f n
  curve-ends l = ap Ok (curve-filled l) ∙ work.none_left answer (order.curve-end f n l) ∙ p.left

-- ---- surfaces: the entries of the jet f before [i][j] are numbers, and stand in the array
abbrev pub SurfaceFilled : (ℕ → ℕ → Whole) → {n : ℕ} → n ≤ 20 → ℕ → ℕ → List ℤ → Type 0
SurfaceFilled f {n} b = SurfaceStored 231 (pos 0) (pos 0) n (room-231 n b) (λ i j v. f i j ≡ Ok v)

pub record SurfaceProgress (f : ℕ → ℕ → Whole) (n i j : ℕ) (r : List ℤ) : Type 0 where
  pub high : n ≤ 20
  pub stored : SurfaceFilled f high i j r
  pub left : unless_refused (order.surface_left f n i j) (Ok (surface_array (pos 0) (λ x y. value_of (f x y)) n)) ≡ formed_surface f n

pub surface-begins : (f : ℕ → ℕ → Whole) {n : ℕ} → n ≤ 20 → SurfaceProgress f n 0 0 (replicate 231 (pos 0))
surface-begins f {n} b = record {
  high = b;
  stored = surface-none 231 (pos 0) (pos 0) n (room-231 n b) (λ i j v. f i j ≡ Ok v);
  left = ap (λ (l : List Whole). unless_refused l (Ok (surface_array (pos 0) (λ i j. value_of (f i j)) n))) (sym (order.surface-start f n));
}

module _ {f : ℕ → ℕ → Whole} {n i j : ℕ} {r : List ℤ} (p : SurfaceProgress f n i j r) where
  abbrev answers : Result (List ℤ) Refusal
  answers = Ok (surface_array (pos 0) (λ i j. value_of (f i j)) n)

  -- it is stored at the place that the code works out
  pub surface-goes-on : {v : ℤ} {k : ℕ} → i + j ≤ n → SFits w64 v → f i j ≡ Ok v → k ≡ index i j → SurfaceProgress f n i (j + 1) (set r k (to_z w64 (of_z w64 v)))
  surface-goes-on {v = v} l fv e at = rw at (record {
    high = p.high;
    stored =
        surface-more 231 (pos 0) (pos 0) n (room-231 n p.high) (λ i j v. f i j ≡ Ok v) (to_z w64 (of_z w64 v)) p.stored l
        (e ∙ ap Ok (sym (to_z-of_z fv)));
    left = work.pass answers e (order.surface-next f n i j l) ∙ p.left;
  })

  pub surface-turns : n < i + j → SurfaceProgress f n (i + 1) 0 r
  surface-turns l = record {
    high = p.high;
    stored = surface-next 231 (pos 0) (pos 0) n (room-231 n p.high) (λ i j v. f i j ≡ Ok v) p.stored l;
    left = ap (λ (k : List Whole). unless_refused k answers) (sym (order.surface-row f n i j l)) ∙ p.left;
  }

  pub surface-stops : {c : Refusal} → i + j ≤ n → f i j ≡ Err c → Err c ≡ formed_surface f n
  surface-stops l e = work.stop answers e (order.surface-next f n i j l) ∙ p.left

module _ {f : ℕ → ℕ → Whole} {n i : ℕ} {r : List ℤ} (p : SurfaceProgress f n i 0 r) where
  pub surface-ends : n < i → Ok r ≡ formed_surface f n
  surface-ends l =
      ap Ok (surface-all 231 (pos 0) (pos 0) n (room-231 n p.high) (λ i j v. f i j ≡ Ok v) (λ i j. value_of (f i j)) (λ i j v q. sym (ap value_of q)) {m = i} p.stored l)
      ∙ work.none_left (answers p) (order.surface-end f n l) ∙ p.left
