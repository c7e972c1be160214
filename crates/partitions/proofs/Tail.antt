-- A function that stores the first element of an array and hands the rest to a call of itself. Assumes nothing.
use Rattle.std.proofs.Common.{◌≡◌, refl, sym, ap, ap₂, ◌∙◌, List, [], ◌∷◌, ◌++◌, append-nil, ℕ, suc, ◌-◌, ◌<◌, min, le_refl, arith, length, set, take, drop, take_all}
use lib.Seq.{drop-length}
use borrow.Rule.Slice.PartMut.{put_mid}
use Rattle.partitions.specs.Inner.{greatest}

-- the tail of an array, as it is lent
abbrev pub tail_of : List ℕ → List ℕ
tail_of x = take (length x - 1) (drop 1 x)

pub one_less : (n : ℕ) → suc n - 1 ≡ n
one_less n = omega arith

pub tail-cons : (a : ℕ) (t : List ℕ) → tail_of (a ∷ t) ≡ t
tail-cons a t = ap (λ (k : ℕ). take k t) (one_less (length t)) ∙ take_all (length t) t (le_refl (length t))

pub tail-length : (x : List ℕ) → length (tail_of x) ≡ length x - 1
tail-length [] = refl
tail-length (a ∷ t) = ap length (tail-cons a t) ∙ sym (one_less (length t))

-- the array when the tail has come back
pub put-cons : (a : ℕ) (t ys : List ℕ) → put_mid 1 (length (a ∷ t) - 1) (a ∷ t) ys ≡ a ∷ ys
put-cons a t ys = ap (λ (l : List ℕ). a ∷ l) (ap (λ (l : List ℕ). ys ++ l) (ap (λ (k : ℕ). drop k t) (one_less (length t)) ∙ drop-length t) ∙ append-nil ys)

-- the greatest list: none in an empty array, else its first part and the greatest list of the rest
pub none_left : (x : List ℕ) (n m : ℕ) → length x ≡ 0 → x ≡ greatest (length x) n m
unfolding greatest
none_left [] n m e = refl
none_left (a ∷ t) n m e = absurd (omega arith)

pub first_then : (x : List ℕ) (n m f : ℕ) (ys : List ℕ) → 0 < length x → f ≡ min (n - (length x - 1)) m →
    ys ≡ greatest (length (tail_of (set x 0 f))) (n - f) f → put_mid 1 (length (set x 0 f) - 1) (set x 0 f) ys ≡ greatest (length x) n m
unfolding greatest
first_then [] n m f ys h e g = absurd (omega arith)
first_then (a ∷ t) n m f ys h e g =
    put-cons f t ys
    ∙ ap₂ (λ (x : ℕ) (l : List ℕ). x ∷ l) (e') (g ∙ ap₂ (λ (k x : ℕ). greatest k (n - x) x) (ap length (tail-cons f t)) e')
  where
    e' : f ≡ min (n - length t) m
    e' = e ∙ ap (λ (k : ℕ). min (n - k) m) (one_less (length t))
