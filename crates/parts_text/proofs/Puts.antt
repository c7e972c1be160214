-- Texts written one after the other, and the digits of a number one after the other. Assumes nothing.
use Rattle.std.proofs.Common.{◌≡◌, refl, ◌∙◌, ap, ap₂, sym, cond, List, [], ◌∷◌, ◌++◌, append_assoc, append-nil, ℕ, zero, suc, ◌+◌, ◌/◌, ◌%◌, ◌<◌, ◌≤◌, add-zero, zero-add, arith, ltb, length, get_or, take, drop, set, length-set, take_at, lt-ltb, le-ltb}
use lib.Seq.{sets, sets-eq}
use Rattle.std.proofs.lemmas.List.{take_more}
use Rattle.parts_text.specs.Text.{digits, decimal, joined}
use Rattle.parts_text.specs.Printed.{written, shown}
use Rattle.parts_text.specs.declared.out.Text.{Text}
use Rattle.parts_text.specs.Inner.{put, puts}

-- ---- texts
puts-append : (p : Text) (s t : List ℕ) → puts p (s ++ t) ≡ puts (puts p s) t
unfolding puts
puts-append p [] t = refl
puts-append p (b ∷ s) t = puts-append (put p b) s t

pub puts_none : (p : Text) → p ≡ puts p []
unfolding puts
puts_none p = refl

-- a text after a text, and a byte after a text
pub after : (p : Text) (s t : List ℕ) {q r : Text} → q ≡ puts p s → r ≡ puts q t → r ≡ puts p (s ++ t)
after p s t e f = f ∙ ap (λ (q : Text). puts q t) e ∙ sym (puts-append p s t)

pub after_byte : (p : Text) (s : List ℕ) (b : ℕ) {q r : Text} → q ≡ puts p s → r ≡ put q b → r ≡ puts p (s ++ (b ∷ []))
unfolding puts
after_byte p s b e f = after p s (b ∷ []) e f

pub byte-first : (p : Text) (b : ℕ) (t : List ℕ) {q r : Text} → q ≡ put p b → r ≡ puts q t → r ≡ puts p (b ∷ t)
unfolding puts
byte-first p b t e f = f ∙ ap (λ (q : Text). puts q t) e

-- a text that fits stands at the front
puts-sets : (t out : List ℕ) (at : ℕ) → at + length t ≤ length out → puts (record { bytes = out; len = at }) t ≡ record { bytes = sets out at t; len = at + length t }
unfolding puts
puts-sets [] out at h = ap (λ (n : ℕ). record { bytes = out; len = n }) (sym (add-zero at))
puts-sets (b ∷ t) out at h =
    let e : suc at + length t ≡ at + suc (length t) = omega arith in
    let k : suc at + length t ≤ length (set out at b) = simp length-set (omega arith) in
    rw (lt-ltb at (length out) (omega arith)) (puts-sets t (set out at b) (suc at) k ∙ ap (λ (n : ℕ). record { bytes = sets (set out at b) (suc at) t; len = n }) e)

module _ (t out : List ℕ) {p : Text} (h : length t ≤ length out) (w : p ≡ puts (record { bytes = out; len = 0 }) t) where
  whole : p ≡ record { bytes = sets out 0 t; len = 0 + length t }
  whole = w ∙ puts-sets t out 0 (omega arith)

  pub front_length : p.len ≡ length t
  front_length = ap (λ (p : Text). p.len) whole ∙ zero-add (length t)

  pub front_bytes : p.bytes ≡ written t out
  front_bytes = ap (λ (p : Text). p.bytes) whole ∙ sets-eq t out 0 (omega arith) ∙ ap (λ (n : ℕ). t ++ drop n out) (zero-add (length t))

  pub front_shown : shown p ≡ t
  front_shown = ap₂ take front_length front_bytes ∙ take_at t (drop (length t) out) (length t) refl

-- ---- a thing more
pub joined-append : {A : Type 0} (f : A → List ℕ) (l m : List A) → joined f (l ++ m) ≡ joined f l ++ joined f m
unfolding joined
joined-append f [] m = refl
joined-append f (a ∷ l) m = ap (λ (t : List ℕ). f a ++ t) (joined-append f l m) ∙ sym (append_assoc (f a) (joined f l) (joined f m))

pub joined-one : {A : Type 0} (f : A → List ℕ) (a : A) → joined f (a ∷ []) ≡ f a
unfolding joined
joined-one f a = append-nil (f a)

pub joined-more : (f : ℕ → List ℕ) (l : List ℕ) (i : ℕ) → i < length l → joined f (take (i + 1) l) ≡ joined f (take i l) ++ f (get_or l i 0)
joined-more f l i h =
    ap (joined f) (take_more l i 0 h) ∙ joined-append f (take i l) (get_or l i 0 ∷ []) ∙ ap (λ (t : List ℕ). joined f (take i l) ++ t) (joined-one f (get_or l i 0))

-- ---- digits
-- how many digits are allowed does not matter where they are enough
enough : (k m n : ℕ) → n ≤ k → n ≤ m → digits k n ≡ digits m n
unfolding digits
enough zero zero n h g = refl
enough zero (suc m) n h g = rw (lt-ltb n 10 (omega arith))
enough (suc k) zero n h g = rw (lt-ltb n 10 (omega arith))
enough (suc k) (suc m) n h g =
    ap (λ (t : List ℕ). cond (ltb n 10) ((48 + n) ∷ []) (t ++ ((48 + n % 10) ∷ []))) (enough k m (n / 10) (omega arith) (omega arith))

pub decimal-one : (n : ℕ) → n < 10 → decimal n ≡ (48 + n) ∷ []
unfolding digits
decimal-one zero h = refl
decimal-one (suc n) h = rw (lt-ltb (suc n) 10 h)

pub decimal-more : (n : ℕ) → 10 ≤ n → decimal n ≡ decimal (n / 10) ++ ((48 + n % 10) ∷ [])
unfolding digits
decimal-more zero h = let z : ⊥ = omega arith in absurd z
decimal-more (suc n) h = rw (le-ltb (suc n) 10 h) (ap (λ (t : List ℕ). t ++ ((48 + suc n % 10) ∷ [])) (enough n (suc n / 10) (suc n / 10) (omega arith) (omega arith)))
