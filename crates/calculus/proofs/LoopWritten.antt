-- A loop that writes a list in turn, as far as what it writes to reaches. Assumes nothing.
use Rattle.std.proofs.Common.{◌≡◌, refl, sym, ap, ◌∙◌, List, [], ◌∷◌, ◌++◌, append_assoc, append-nil, ℕ, ◌+◌, arith, length, set, length-append}
use Rattle.calculus.specs.Order.{overwritten}

module _ {X : Type 0} where
  put-more : (done out : List X) (v : X) → set (overwritten done out) (length done) v ≡ overwritten (done ++ v ∷ []) out
  unfolding overwritten
  put-more [] [] v = refl
  put-more [] (x ∷ out) v = refl
  put-more (d ∷ done) [] v = refl
  put-more (d ∷ done) (x ∷ out) v = ap (λ (l : List X). d ∷ l) (put-more done out v)

  -- a list that fits is all that is there
  pub overwritten-whole : (vs out : List X) → length out ≡ length vs → overwritten vs out ≡ vs
  unfolding overwritten
  overwritten-whole [] [] e = refl
  overwritten-whole [] (x ∷ out) e = absurd (omega (arith, e))
  overwritten-whole (v ∷ vs) [] e = absurd (omega (arith, e))
  overwritten-whole (v ∷ vs) (x ∷ out) e = ap (λ (l : List X). v ∷ l) (overwritten-whole vs out (omega (arith, e)))

module _ {X : Type 0} (all old : List X) where
  -- `done` is written, k values, and `left` is left
  pub record Written (out left : List X) (k : ℕ) : Type 0 where
    pub done : List X
    pub whole : done ++ left ≡ all
    pub long : length done ≡ k
    pub now : out ≡ overwritten done old

  pub written-none : {left : List X} → all ≡ left → Written old left 0
  unfolding overwritten
  written-none e = record { done = []; whole = sym e; long = refl; now = refl }

  module _ {out left : List X} {k : ℕ} (w : Written out left k) where
    pub written-more : {v : X} {more : List X} → left ≡ v ∷ more → Written (set out k v) more (k + 1)
    written-more {v} {more} e = record {
      done = w.done ++ v ∷ [];
      whole = append_assoc w.done (v ∷ []) more ∙ ap (λ (l : List X). w.done ++ l) (sym e) ∙ w.whole;
      long = length-append w.done (v ∷ []) ∙ ap (λ (n : ℕ). n + 1) w.long;
      now = ap (λ (l : List X). set l k v) w.now ∙ ap (λ (n : ℕ). set (overwritten w.done old) n v) (sym w.long) ∙ put-more w.done old v;
    }

    pub written-room : k + length left ≡ length all
    written-room = omega (arith, w.long, length-append w.done left, ap length w.whole)

    pub written-turns : {more : List X} → left ≡ more → Written out more k
    written-turns e = record { done = w.done; whole = ap (λ (l : List X). w.done ++ l) (sym e) ∙ w.whole; long = w.long; now = w.now }

    pub written-ends : left ≡ [] → out ≡ overwritten all old
    written-ends e = w.now ∙ ap (λ (l : List X). overwritten l old) (sym (append-nil w.done) ∙ ap (λ (l : List X). w.done ++ l) (sym e) ∙ w.whole)
