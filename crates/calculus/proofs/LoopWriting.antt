-- A loop that writes a list in turn: what it holds so far, and what is left to write. Assumes nothing.
use Rattle.std.proofs.Common.{◌≡◌, refl, sym, ap, ap₂, ◌∙◌, List, [], ◌∷◌, ◌++◌, append_assoc, append-nil, ℕ, zero, suc, ◌+◌, ◌<◌, zero-add, add-suc, suc-add, add-one, arith, length, take, set, length-set, length-append, take_all, take-suc-set}
use Rattle.calculus.specs.Array.{listed}
use Rattle.calculus.specs.Graded.{triangle}
use Rattle.calculus.proofs.Graded.{triangle-suc}
use Rattle.calculus.specs.Order.{rows}
use Rattle.calculus.proofs.LoopFilling.{listed-length}

module _ {X : Type 0} (all : List X) where
  -- the first k are written, and `left` is left
  pub record Writing (out left : List X) (k : ℕ) : Type 0 where
    pub begun : take k out ++ left ≡ all
    pub room : k + length left ≡ length out
    pub long : length out ≡ length all

  pub writing_begins : (out : List X) {left : List X} → all ≡ left → length out ≡ length all → Writing out left 0
  writing_begins out {left} e l = record { begun = sym e; room = zero-add (length left) ∙ ap length (sym e) ∙ sym l; long = l }

  module _ {out left : List X} {k : ℕ} (w : Writing out left k) where
    pub in_list : {v : X} {more : List X} → left ≡ v ∷ more → k < length out
    in_list {v} {more} e =
        let n : length left ≡ suc (length more) = ap length e in
        omega (arith, w.room)

    pub writing-goes-on : {v : X} {more : List X} → left ≡ v ∷ more → Writing (set out k v) more (k + 1)
    writing-goes-on {v} {more} e = record {
      begun = ap (λ (x : ℕ). take x (set out k v) ++ more) (add-one k) ∙ ap (λ (l : List X). l ++ more) (take-suc-set out k v (in_list e))
          ∙ append_assoc (take k out) (v ∷ []) more ∙ ap (λ (l : List X). take k out ++ l) (sym e) ∙ w.begun;
      room = ap (λ (x : ℕ). x + length more) (add-one k) ∙ suc-add k (length more) ∙ sym (add-suc k (length more)) ∙ ap (λ (l : List X). k + length l) (sym e) ∙ w.room
          ∙ sym (length-set out k v);
      long = length-set out k v ∙ w.long;
    }

    pub writing-turns : {more : List X} → left ≡ more → Writing out more k
    writing-turns e = record { begun = ap (λ (l : List X). take k out ++ l) (sym e) ∙ w.begun; room = ap (λ (l : List X). k + length l) (sym e) ∙ w.room; long = w.long }

    pub writing-ends : left ≡ [] → out ≡ all
    writing-ends e =
        let z : length left ≡ 0 = ap length e in
        sym (take_all k out (omega (arith, w.room))) ∙ sym (append-nil (take k out)) ∙ ap (λ (l : List X). take k out ++ l) (sym e) ∙ w.begun

-- ---- how long a surface's list is
module _ {X : Type 0} where
  pub rows-length : (s : ℕ → ℕ → X) (i k : ℕ) → length (rows s i k) ≡ triangle k
  unfolding rows triangle
  rows-length s i zero = refl
  rows-length s i (suc k) =
      length-append (listed (s i) 0 (suc k)) (rows s (suc i) k) ∙ ap₂ ◌+◌ (listed-length (s i 0) (s i) 0 (suc k)) (rows-length s (suc i) k)
      ∙ omega (arith, triangle-suc k)
