-- The step to the next list, as the code takes it: in the tail; else the first part falls by one and the tail starts anew; else there is none.
-- Assumes nothing.
use Rattle.std.proofs.Common.{◌≡◌, refl, sym, ap, ap₂, ◌∙◌, Bool, true, false, cond, List, [], ◌∷◌, ℕ, ◌+◌, ◌-◌, ◌*◌, ◌≤◌, ◌<◌, mul-zero, arith, leb, ltb, eqb, length, get_or, set, ltb-false, le-ltb, ne_eqb}
use mathlib.Core.Bool.{false≢true}
use borrow.Rule.Slice.PartMut.{put_mid}
use borrow.Author.Tests.{eqb-false}
use Rattle.std.specs.List.{sum}
use Rattle.partitions.specs.Parts.{total}
use Rattle.partitions.specs.Count.{falls}
use Rattle.partitions.specs.Inner.{greatest, can_init, has_next, next_of}
use Rattle.partitions.proofs.Successor.{next-same}
use Rattle.partitions.proofs.Slices.{sum-total}
use Rattle.partitions.proofs.Tail.{tail_of, one_less, tail-cons, put-cons}

-- ---- what `falls` says of the first part and of the tail
pub record First (m a : ℕ) (t : List ℕ) : Type 0 where
  pub positive : 0 < a
  pub small : a ≤ m
  pub rest : falls a t ≡ true

first_by : (m a : ℕ) (t : List ℕ) (z : Bool) (g : Bool) → eqb a 0 ≡ z → ltb m a ≡ g → cond z false (cond g false (falls a t)) ≡ true → First m a t
first_by m a t true g p q e = absurd (false≢true e)
first_by m a t false true p q e = absurd (false≢true e)
first_by m a t false false p q e =
    let h : ¬ (a ≡ 0) = eqb-false a 0 p in
    record { positive = omega arith; small = ltb-false m a q; rest = e }

pub falls-cons : (m a : ℕ) (t : List ℕ) → falls m (a ∷ t) ≡ true → First m a t
unfolding falls
falls-cons m a t e = first_by m a t (eqb a 0) (ltb m a) refl refl e

pub falls-build : (m a : ℕ) (t : List ℕ) → First m a t → falls m (a ∷ t) ≡ true
unfolding falls
falls-build m a t f =
    let h : ¬ (a ≡ 0) = (λ e. let p : 0 < a = f.positive in omega arith) in
    ap₂ (λ (z g : Bool). cond z false (cond g false (falls a t))) (ne_eqb a 0 h) (le-ltb m a f.small) ∙ f.rest

pub falls-wider : (m n : ℕ) (t : List ℕ) → m ≤ n → falls m t ≡ true → falls n t ≡ true
unfolding falls
falls-wider m n [] h e = refl
falls-wider m n (a ∷ t) h e =
    let f = falls-cons m a t e in
    let s : a ≤ m = f.small in
    falls-build n a t (record { positive = f.positive; small = omega arith; rest = f.rest })

pub length-le : (m : ℕ) (l : List ℕ) → falls m l ≡ true → length l ≤ total l
unfolding total
length-le m [] e = omega arith
length-le m (a ∷ l) e =
    let f = falls-cons m a l e in
    let p : 0 < a = f.positive in
    omega (arith, length-le a l f.rest)

-- ---- a list that falls has at most as many parts as its sum
module _ (x : List ℕ) (h : 0 < length x) (e : falls 20 x ≡ true) where
  pub head-positive : 1 ≤ get_or x 0 0
  head-positive = by x h e
    where
      by : (x : List ℕ) → 0 < length x → falls 20 x ≡ true → 1 ≤ get_or x 0 0
      by [] h e = absurd (omega arith)
      by (a ∷ t) h e = (falls-cons 20 a t e).positive

  pub head_small : get_or x 0 0 ≤ 20
  head_small = by x h e
    where
      by : (x : List ℕ) → 0 < length x → falls 20 x ≡ true → get_or x 0 0 ≤ 20
      by [] h e = absurd (omega arith)
      by (a ∷ t) h e = (falls-cons 20 a t e).small

  pub tail-falls : falls 20 (tail_of x) ≡ true
  tail-falls = by x h e
    where
      by : (x : List ℕ) → 0 < length x → falls 20 x ≡ true → falls 20 (tail_of x) ≡ true
      by [] h e = absurd (omega arith)
      by (a ∷ t) h e = let f = falls-cons 20 a t e in ap (falls 20) (tail-cons a t) ∙ falls-wider a 20 t f.small f.rest

  pub tail-total : total (tail_of x) ≤ total x
  unfolding total
  tail-total = by x h
    where
      by : (x : List ℕ) → 0 < length x → total (tail_of x) ≤ total x
      by [] h = absurd (omega arith)
      by (a ∷ t) h = omega (arith, ap total (tail-cons a t))

  pub tail-sum : total x ≤ 20 → sum (tail_of x) ≤ 20
  tail-sum s = omega (arith, sum-total (tail_of x), tail-total)

-- ---- the four ways that the step goes
pub no-tail : (x : List ℕ) → length x ≤ 1 → (false ≡ has_next x) × (x ≡ next_of x)
unfolding has_next next_of total
no-tail [] h = (refl, refl)
no-tail (a ∷ []) h =
    let none : leb 1 ((a - 1) * 0) ≡ false = ap (leb 1) (mul-zero (a - 1)) in
    (sym none, sym (ap (λ (b : Bool). cond b ((a - 1) ∷ greatest 0 1 (a - 1)) (a ∷ [])) none))
no-tail (a ∷ (b ∷ t)) h = absurd (omega arith)

module _ (a : ℕ) (t ys : List ℕ) (e : ys ≡ next_of t) where
  in_tail : has_next t ≡ true → (true ≡ has_next (a ∷ t)) × (a ∷ ys ≡ next_of (a ∷ t))
  unfolding has_next next_of
  in_tail h = (
    sym (ap (λ (s : Bool). cond s true (can_init (length t) (total t + 1) (a - 1))) h),
    ap (λ (l : List ℕ). a ∷ l) e ∙ sym (ap (λ (s : Bool). cond s (a ∷ next_of t) (cond (can_init (length t) (total t + 1) (a - 1)) ((a - 1) ∷ greatest (length t) (total t + 1) (a - 1)) (a ∷ t))) h),
  )

  anew : has_next t ≡ false → can_init (length t) (total t + 1) (a - 1) ≡ true →
      (true ≡ has_next (a ∷ t)) × ((a - 1) ∷ greatest (length t) (total t + 1) (a - 1) ≡ next_of (a ∷ t))
  unfolding has_next next_of
  anew h k = (
    sym (ap₂ (λ (s c : Bool). cond s true c) h k),
    sym (ap₂ (λ (s c : Bool). cond s (a ∷ next_of t) (cond c ((a - 1) ∷ greatest (length t) (total t + 1) (a - 1)) (a ∷ t))) h k),
  )

  nowhere : has_next t ≡ false → can_init (length t) (total t + 1) (a - 1) ≡ false → (false ≡ has_next (a ∷ t)) × (a ∷ ys ≡ next_of (a ∷ t))
  unfolding has_next next_of
  nowhere h k = (
    sym (ap₂ (λ (s c : Bool). cond s true c) h k),
    ap (λ (l : List ℕ). a ∷ l) (e ∙ next-same t h)
        ∙ sym (ap₂ (λ (s c : Bool). cond s (a ∷ next_of t) (cond c ((a - 1) ∷ greatest (length t) (total t + 1) (a - 1)) (a ∷ t))) h k),
  )

-- ---- the same of an array whose tail was lent, and has come back as ys
-- the array with a smaller first part
abbrev pub lowered : List ℕ → List ℕ → List ℕ
lowered x ys = set (put_mid 1 (length x - 1) x ys) 0 (get_or x 0 0 - 1)

-- the tests and the sums that the code has of the tail, at a ∷ t
module _ (a n : ℕ) (t : List ℕ) (e : n ≡ sum (tail_of (a ∷ t))) where
  one-more : n + 1 ≡ total t + 1
  one-more = ap (λ (n : ℕ). n + 1) (e ∙ sum-total (tail_of (a ∷ t)) ∙ ap total (tail-cons a t))

  asked : (b : Bool) → can_init (length (a ∷ t) - 1) (n + 1) (a - 1) ≡ b → can_init (length t) (total t + 1) (a - 1) ≡ b
  asked b k = sym (ap₂ (λ (i j : ℕ). can_init i j (a - 1)) (one_less (length t)) one-more) ∙ k

pub moved-tail : (x ys : List ℕ) → 0 < length x → ys ≡ next_of (tail_of x) → has_next (tail_of x) ≡ true →
    (true ≡ has_next x) × (put_mid 1 (length x - 1) x ys ≡ next_of x)
moved-tail [] ys h e k = absurd (omega arith)
moved-tail (a ∷ t) ys h e k =
    let r = in_tail a t ys (e ∙ ap next_of (tail-cons a t)) (sym (ap has_next (tail-cons a t)) ∙ k) in
    (r.0, put-cons a t ys ∙ r.1)

pub moved_none : (x ys : List ℕ) (n : ℕ) → 0 < length x → ys ≡ next_of (tail_of x) → has_next (tail_of x) ≡ false → n ≡ sum (tail_of x) →
    can_init (length x - 1) (n + 1) (get_or x 0 0 - 1) ≡ false → (false ≡ has_next x) × (put_mid 1 (length x - 1) x ys ≡ next_of x)
moved_none [] ys n h e k s c = absurd (omega arith)
moved_none (a ∷ t) ys n h e k s c =
    let r = nowhere a t ys (e ∙ ap next_of (tail-cons a t)) (sym (ap has_next (tail-cons a t)) ∙ k) (asked a n t s false c) in
    (r.0, put-cons a t ys ∙ r.1)

pub lowered-cons : (a : ℕ) (t ys : List ℕ) → lowered (a ∷ t) ys ≡ (a - 1) ∷ ys
lowered-cons a t ys = ap (λ (l : List ℕ). set l 0 (a - 1)) (put-cons a t ys)

pub moved-anew : (x ys zs : List ℕ) (n : ℕ) → 0 < length x → length ys ≡ length (tail_of x) → has_next (tail_of x) ≡ false → n ≡ sum (tail_of x) →
    can_init (length x - 1) (n + 1) (get_or x 0 0 - 1) ≡ true → zs ≡ greatest (length (tail_of (lowered x ys))) (n + 1) (get_or x 0 0 - 1) →
    (true ≡ has_next x) × (put_mid 1 (length (lowered x ys) - 1) (lowered x ys) zs ≡ next_of x)
moved-anew [] ys zs n h e k s c g = absurd (omega arith)
moved-anew (a ∷ t) ys zs n h e k s c g =
    let r = anew a t (next_of t) refl (sym (ap has_next (tail-cons a t)) ∙ k) (asked a n t s true c) in
    let long : length (tail_of (lowered (a ∷ t) ys)) ≡ length t = ap (λ (l : List ℕ). length (tail_of l)) (lowered-cons a t ys) ∙ ap length (tail-cons (a - 1) ys) ∙ e ∙ ap length (tail-cons a t) in (
      r.0,
      ap (λ (l : List ℕ). put_mid 1 (length l - 1) l zs) (lowered-cons a t ys) ∙ put-cons (a - 1) ys zs
          ∙ ap (λ (l : List ℕ). (a - 1) ∷ l) (g ∙ ap₂ (λ (i j : ℕ). greatest i j (a - 1)) long (one-more a n t s)) ∙ r.1,
    )
