-- The terms of the carry's tensor, its running totals and its entries, at the checked kind: the first refusal stays. Assumes nothing.
use Rattle.std.proofs.Common.{◌≡◌, refl, sym, ap, ap₂, ◌∙◌, List, [], ◌∷◌, ℕ, zero, suc, ◌+◌, ◌-◌, ◌*◌, ◌/◌, ◌^◌, ◌≤◌, ◌<◌, ℤ, pos, ◌+ℤ◌, ◌*ℤ◌, arith, length, get_or, Ok, Err, FitsSigned, w64, suc-ne-zero}
use Rattle.std.proofs.Math.Nat.{add-zero}
use lib.Count as Count
use Rattle.refusals.specs.declared.Refusal.{Refusal}
use Rattle.partitions.specs.Parts.{total, lists, multiplicity}
use Rattle.calculus.specs.Kind.{regular}
use Rattle.calculus.specs.Carry.{digits, factors, summand, through_len, ones, coordinates, surface_entry, composite_derivative, composite_derivatives}
use Rattle.calculus.specs.InTurn.{along_list}
use Rattle.calculus.specs.Graded.{index}
use Rattle.calculus.proofs.LoopWalking.{multiplicity-fits}
use Rattle.whole.specs.Checked.{Whole, both, formed}
use Rattle.calculus.proofs.LoopBits.{entry_at}
use Rattle.whole.proofs.Range.{formed-in, raw-is, tz}
use Rattle.exact_formulas.specs.Kinds.{checked}
use Rattle.exact_formulas.specs.Entries.{curve_values, surface_values}

module _ (entries u v : List ℤ) where
  -- a term of the tensor, a term of the running total, and the total itself
  abbrev pub term_of : List ℕ → ℕ → Whole
  term_of l mask =
      checked.times (surface_entry (surface_values entries) (digits 2 l mask)) (factors checked 2 (coordinates (curve_values u) (curve_values v)) checked.one l mask)

  abbrev pub terms : List ℕ → Whole
  terms = summand (regular checked) 2 (coordinates (curve_values u) (curve_values v)) (surface_entry (surface_values entries))

  abbrev pub through : ℕ → ℕ → Whole
  through = through_len (regular checked) 2 (coordinates (curve_values u) (curve_values v)) (surface_entry (surface_values entries))

  -- the carried jet: the surface's value at order 0, and a derivative at every other
  abbrev pub carried_jet : ℕ → Whole
  carried_jet = composite_derivatives (regular checked) (curve_values u) (curve_values v) (surface_values entries)

  pub carried-value : (m : ℕ) → m ≡ 0 → Ok (get_or entries 0 (pos 0)) ≡ carried_jet m
  unfolding index ones
  carried-value zero e = refl
  carried-value (suc m) e = absurd (suc-ne-zero m e)

  pub carried-derivative : (m : ℕ) → ¬ (m ≡ 0) → composite_derivative (regular checked) (curve_values u) (curve_values v) (surface_values entries) m ≡ carried_jet m
  carried-derivative zero f = absurd (f refl)
  carried-derivative (suc m) f = refl

-- the term of a mask, as the loop forms it: from the entry that the mask names, and the mask's factors
module _ (entries u v : List ℤ) (l : List ℕ) (mask : ℕ) (below : mask < 2 ^ length l) where
  abbrev named : ℤ
  named = get_or entries (length l * (length l + 1) / 2 + length l - Count.ones mask) (pos 0)

  entry-is : Ok named ≡ surface_entry (surface_values entries) (digits 2 l mask)
  entry-is = sym (entry_at (λ k. Ok (get_or entries k (pos 0))) l mask below)

  pub term-refused : {c : Refusal} → Err c ≡ factors checked 2 (coordinates (curve_values u) (curve_values v)) checked.one l mask → Err c ≡ term_of entries u v l mask
  term-refused e = ap₂ checked.times entry-is e

  pub term-formed : {p : ℤ} → FitsSigned w64 named → FitsSigned w64 p → Ok p ≡ factors checked 2 (coordinates (curve_values u) (curve_values v)) checked.one l mask →
      formed (tz named *ℤ tz p) ≡ term_of entries u v l mask
  term-formed fx fp e = raw-is fx fp (λ y z. formed (y *ℤ z)) ∙ ap₂ checked.times entry-is e

-- a multiplicity is a number of 64 bits
pub coefficient-formed : (l : List ℕ) → total l ≤ 20 → formed (pos (multiplicity l)) ≡ Ok (pos (multiplicity l))
coefficient-formed l h = formed-in (pos (multiplicity l)) (multiplicity-fits l h)

-- ---- the first refusal stays
pub factors-refused : (k : ℕ → ℕ → Whole) (c : Refusal) (l : List ℕ) (mask : ℕ) → Err c ≡ factors checked 2 k (Err c) l mask
unfolding factors
factors-refused k c [] mask = refl
factors-refused k c (a ∷ l) mask = factors-refused k c l _

module _ (f : ℤ → ℤ → Whole) where
  pub along-refused : {X : Type 0} (t : X → Whole) (c : Refusal) (ls : List X) → Err c ≡ along_list (both f) (Err c) t ls
  unfolding along_list
  along-refused t c [] = refl
  along-refused t c (x ∷ ls) = along-refused t c ls

  pub through-refused : {X : Type 0} {s : Whole} (t : X → Whole) {c : Refusal} (ls : List X) → Err c ≡ s → Err c ≡ along_list (both f) s t ls
  through-refused t {c = c} ls h = along-refused t c ls ∙ ap (λ (w : Whole). along_list (both f) w t ls) h

module _ (entries u v : List ℤ) (n : ℕ) {c : Refusal} where
  pub through-stays : (k d m : ℕ) → m ≡ k + d → Err c ≡ through entries u v n k → Err c ≡ through entries u v n m
  unfolding through_len
  through-stays k zero m e h = h ∙ ap (through entries u v n) (sym (e ∙ add-zero k))
  through-stays k (suc d) zero e h = absurd (omega (arith, e))
  through-stays k (suc d) (suc m) e h = through-refused (λ x y. formed (x +ℤ y)) (terms entries u v) (lists n (suc m)) (through-stays k d m (omega (arith, e)) h)
