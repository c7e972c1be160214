-- The greatest list is the first of the lists, and each list's next is the list after it.
-- Assumes nothing.
use Rattle.std.proofs.Common.{◌≡◌, refl, sym, ◌∙◌, ap, ap₂, subst, Bool, true, false, cond, true≢false, List, [], ◌∷◌, ◌++◌, map, ℕ, zero, suc, ◌+◌, ◌-◌, ◌*◌, ◌≤◌, ◌<◌, min, arith, mul-le-mul_right, leb, length, eq-eqb}
use mathlib.Core.List.{nil≢cons, tail-eq_of_cons-eq}
use Rattle.partitions.specs.Parts.{total, parts}
use Rattle.partitions.specs.Inner.{greatest, can_init, has_next, next_of}
use Rattle.partitions.specs.Walk.{from}
use Rattle.partitions.proofs.Tests.{by-leb, by_eqb}
use Rattle.partitions.proofs.Down.{Down, none, one, long}
use Rattle.partitions.proofs.Lists.{Every, nil, and, head_of, tail_of, every-weaken, Is, sound, complete, Falling, end, then, falling, Greater}
use Rattle.partitions.proofs.Member.{by-same, greater-not, from-here, from-there, from-every, from_member}

-- ---- going by cases on the test
pub by-can : (k n m : ℕ) (P : Bool → Type 0) → (k ≤ n → n ≤ m * k → P true) → (n < k → P false) → (m * k < n → P false) → P (can_init k n m)
by-can k n m P within low high =
    by-leb k n (λ b. P (cond b (leb n (m * k)) false)) (λ h. by-leb n (m * k) P (within h) high) low

pub can : (k n m : ℕ) → k ≤ n → n ≤ m * k → can_init k n m ≡ true
can k n m h g = by-can k n m (λ b. b ≡ true) (λ _ _. refl) (λ f. absurd (omega arith)) (λ f. absurd (omega arith))

pub cannot : (k n m : ℕ) → m * k < n → can_init k n m ≡ false
cannot k n m h = by-can k n m (λ b. b ≡ false) (λ f g. absurd (omega arith)) (λ _. refl) (λ _. refl)

-- ---- no list where the test says no
bounded : {m : ℕ} {l : List ℕ} → Down m l → total l ≤ m * length l
unfolding total
bounded none = omega arith
bounded {m} (one {a = a} {l = l} h d) = fits (suc a) m (length l) (total l) h (bounded d)
  where
    fits : (b m n t : ℕ) → b ≤ m → t ≤ b * n → b + t ≤ m * suc n
    fits b m n t h g = omega (arith, mul-le-mul_right n h)

nothing : {P : List ℕ → Type 0} {xs : List (List ℕ)} → ((l : List ℕ) → ¬ (P l)) → Every P xs → xs ≡ []
nothing h nil = refl
nothing h (and p ps) = absurd (h _ p)

pub none-low : (k m n : ℕ) → n < k → parts k m n ≡ []
none-low k m n h = nothing (λ l i. absurd (omega (arith, long i.down, i.long, i.sums))) (sound k m n)

pub none-high : (k m n : ℕ) → m * k < n → parts k m n ≡ []
none-high k m n h = nothing (λ l i. no l i) (sound k m n)
  where
    no : (l : List ℕ) → ¬ (Is k m n l)
    no l i = let e : m * length l ≡ m * k = ap (λ x. m * x) i.long in omega (arith, e, bounded i.down, i.sums)

-- ---- the greatest list is the first
first_group : (k m n : ℕ) → List (List ℕ)
first_group k m n = cond (leb (suc m) n) (map (λ l. suc m ∷ l) (parts k (suc m) (n - suc m))) []

parts-suc : (k m n : ℕ) → parts (suc k) (suc m) n ≡ first_group k m n ++ parts (suc k) m n
unfolding parts first_group
parts-suc k m n = refl

group-yes : (k m n : ℕ) → suc m ≤ n → first_group k m n ≡ map (λ l. suc m ∷ l) (parts k (suc m) (n - suc m))
unfolding first_group
group-yes k m n h =
    by-leb (suc m) n (λ b. cond b (map (λ l. suc m ∷ l) (parts k (suc m) (n - suc m))) [] ≡ map (λ l. suc m ∷ l) (parts k (suc m) (n - suc m)))
    (λ _. refl) (λ g. absurd (omega arith))

group-none : (k m n : ℕ) → n < suc m + k → first_group k m n ≡ []
unfolding first_group
group-none k m n h =
    by-leb (suc m) n (λ b. cond b (map (λ l. suc m ∷ l) (parts k (suc m) (n - suc m))) [] ≡ [])
    (λ g. ap (map (λ l. suc m ∷ l)) (none-low k (suc m) (n - suc m) (omega arith))) (λ _. refl)

greatest-at : (k n m a : ℕ) → min (n - k) m ≡ a → greatest (suc k) n m ≡ a ∷ greatest k (n - a) a
unfolding greatest
greatest-at k n m a e = ap (λ x. x ∷ greatest k (n - x) x) e

first-here : (k m n : ℕ) (r : List (List ℕ)) → suc m + k ≤ n → parts k (suc m) (n - suc m) ≡ greatest k (n - suc m) (suc m) ∷ r →
    parts (suc k) (suc m) n ≡ greatest (suc k) n (suc m) ∷ (map (λ l. suc m ∷ l) r ++ parts (suc k) m n)
first-here k m n r h e =
    parts-suc k m n
    ∙ ap (λ x. x ++ parts (suc k) m n) (group-yes k m n (omega arith) ∙ ap (map (λ l. suc m ∷ l)) e)
    ∙ ap (λ x. x ∷ (map (λ l. suc m ∷ l) r ++ parts (suc k) m n)) (sym (greatest-at k n (suc m) (suc m) (omega arith)))

first_below : (k m n : ℕ) (r : List (List ℕ)) → n < suc m + k → parts (suc k) m n ≡ greatest (suc k) n m ∷ r →
    parts (suc k) (suc m) n ≡ greatest (suc k) n (suc m) ∷ r
first_below k m n r h e =
    parts-suc k m n
    ∙ ap (λ x. x ++ parts (suc k) m n) (group-none k m n h)
    ∙ e
    ∙ ap (λ x. x ∷ r) (greatest-at k n m (n - k) (omega arith) ∙ sym (greatest-at k n (suc m) (n - k) (omega arith)))

-- where k ≤ n ≤ m k, the greatest is there and is the first
pub first : (k m n : ℕ) → k ≤ n → n ≤ m * k → (r : List (List ℕ)) × (parts k m n ≡ greatest k n m ∷ r)
unfolding parts greatest
first zero m n h g = ([], ap (λ b. cond b ([] ∷ []) []) (eq-eqb n 0 (omega arith)))
first (suc k) zero n h g = absurd (omega arith)
first (suc k) (suc m) n h g =
    by-leb (suc m + k) n (λ b. (r : List (List ℕ)) × (parts (suc k) (suc m) n ≡ greatest (suc k) n (suc m) ∷ r))
    (λ f. let i = first k (suc m) (n - suc m) (omega arith) (omega arith) in (_, first-here k m n i.0 f i.1))
    (λ f. let i = first (suc k) m n h (within k m n h f g) in (_, first_below k m n i.0 f i.1))
  where
    within : (k m n : ℕ) → suc k ≤ n → n < suc m + k → n ≤ suc m * suc k → n ≤ m * suc k
    within k zero n h f g = absurd (omega arith)
    within k (suc m) n h f g = omega arith

-- the greatest is one of the lists
pub greatest-is : (k m n : ℕ) → k ≤ n → n ≤ m * k → Is k m n (greatest k n m)
greatest-is k m n h g = let f = first k m n h g in head_of (subst (Every (Is k m n)) f.1 (sound k m n))

-- by the test: the greatest is the first, or there is none
pub greatest-first : (k m n : ℕ) → can_init k n m ≡ true → (r : List (List ℕ)) × (parts k m n ≡ greatest k n m ∷ r)
greatest-first k m n =
    by-can k n m (λ b. b ≡ true → (r : List (List ℕ)) × (parts k m n ≡ greatest k n m ∷ r))
    (λ h g _. first k m n h g) (λ _ e. absurd (true≢false (sym e))) (λ _ e. absurd (true≢false (sym e)))

pub greatest-none : (k m n : ℕ) → can_init k n m ≡ false → parts k m n ≡ []
greatest-none k m n =
    by-can k n m (λ b. b ≡ false → parts k m n ≡ [])
    (λ _ _ e. absurd (true≢false e)) (λ h _. none-low k m n h) (λ h _. none-high k m n h)

-- ---- the next of a list, by whether its tail has a next
pub has-later : (a : ℕ) (t : List ℕ) → has_next t ≡ true → has_next (a ∷ t) ≡ true
unfolding has_next
has-later a t h = ap (λ b. cond b true (can_init (length t) (total t + 1) (a - 1))) h

pub has_here : (a : ℕ) (t : List ℕ) → has_next t ≡ false → has_next (a ∷ t) ≡ can_init (length t) (total t + 1) (a - 1)
unfolding has_next
has_here a t h = ap (λ b. cond b true (can_init (length t) (total t + 1) (a - 1))) h

pub next-later : (a : ℕ) (t : List ℕ) → has_next t ≡ true → next_of (a ∷ t) ≡ a ∷ next_of t
unfolding next_of
next-later a t h =
    ap (λ b. cond b (a ∷ next_of t) (cond (can_init (length t) (total t + 1) (a - 1)) ((a - 1) ∷ greatest (length t) (total t + 1) (a - 1)) (a ∷ t))) h

next-cases : (a : ℕ) (t : List ℕ) → has_next t ≡ false →
    next_of (a ∷ t) ≡ cond (can_init (length t) (total t + 1) (a - 1)) ((a - 1) ∷ greatest (length t) (total t + 1) (a - 1)) (a ∷ t)
unfolding next_of
next-cases a t h =
    ap (λ b. cond b (a ∷ next_of t) (cond (can_init (length t) (total t + 1) (a - 1)) ((a - 1) ∷ greatest (length t) (total t + 1) (a - 1)) (a ∷ t))) h

pub next_here : (a : ℕ) (t : List ℕ) → has_next t ≡ false → can_init (length t) (total t + 1) (a - 1) ≡ true →
    next_of (a ∷ t) ≡ (a - 1) ∷ greatest (length t) (total t + 1) (a - 1)
next_here a t h c = next-cases a t h ∙ ap (λ b. cond b ((a - 1) ∷ greatest (length t) (total t + 1) (a - 1)) (a ∷ t)) c

-- ---- a chain: each is followed by its next, and the last has none
pub data Chain : List (List ℕ) → Type 0 where
  empty : Chain []
  last : {x : List ℕ} → has_next x ≡ false → Chain (x ∷ [])
  step : {x y : List ℕ} {r : List (List ℕ)} → has_next x ≡ true → next_of x ≡ y → Chain (y ∷ r) → Chain (x ∷ y ∷ r)

-- what follows a list a ∷ t, where t has no next
data Meets (a : ℕ) (t : List ℕ) : List (List ℕ) → Type 0 where
  over : has_next (a ∷ t) ≡ false → Meets a t []
  goes : {y : List ℕ} {r : List (List ℕ)} → has_next (a ∷ t) ≡ true → next_of (a ∷ t) ≡ y → Meets a t (y ∷ r)

meet : {a : ℕ} {t : List ℕ} {ys : List (List ℕ)} → Meets a t ys → Chain ys → Chain ((a ∷ t) ∷ ys)
meet (over h) c = last h
meet (goes h e) c = step h e c

join : (a : ℕ) {xs ys : List (List ℕ)} → Chain xs → Chain ys → Every (λ t. has_next t ≡ false → Meets a t ys) xs → Chain (map (λ l. a ∷ l) xs ++ ys)
join a empty c e = c
join a (last h) c (and m e) = meet (m h) c
join a (step {x = x} {y = y} h n r) c (and m e) = step (has-later a x h) (next-later a x h ∙ ap (λ l. a ∷ l) n) (join a r c e)

-- the list after the last of the first group is the greatest of the second
module _ (k m n : ℕ) (t : List ℕ) (i : Is k (suc m) (n - suc m) t) (h : suc m ≤ n) (z : has_next t ≡ false) where
  there-is : suc m + k ≤ n
  there-is = omega (arith, long i.down, i.long, i.sums)

  at_tail : {A : Type 0} (f : ℕ → ℕ → ℕ → A) → f (length t) (total t + 1) (suc m - 1) ≡ f k (n - m) m
  at_tail f = ap (λ x. f x (total t + 1) (suc m - 1)) i.long ∙ ap₂ (f k) sum_is less
    where
      sum_is : total t + 1 ≡ n - m
      sum_is = omega (arith, i.sums)

      less : suc m - 1 ≡ m
      less = omega arith

  meets : Meets (suc m) t (parts (suc k) m n)
  meets =
      by-leb n (m * suc k) (λ b. Meets (suc m) t (parts (suc k) m n))
      (λ g. let f = first (suc k) m n (omega (arith, there-is)) g in
      let c : can_init (length t) (total t + 1) (suc m - 1) ≡ true = at_tail can_init ∙ can k (n - m) m (omega (arith, there-is)) (omega (arith, there-is)) in
      subst (Meets (suc m) t) (sym f.1)
      (goes (has_here (suc m) t z ∙ c)
      (next_here (suc m) t z c ∙ at_tail (λ x y z. z ∷ greatest x y z) ∙ sym (greatest-at k n m m (omega (arith, there-is))))))
      (λ g. subst (Meets (suc m) t) (sym (none-high (suc k) m n g))
      (over (has_here (suc m) t z ∙ at_tail can_init ∙ cannot k (n - m) m (omega (arith, there-is)))))

pub chain : (k m n : ℕ) → Chain (parts k m n)
unfolding parts has_next
chain zero m n = by_eqb n 0 (λ b. Chain (cond b ([] ∷ []) [])) (λ e. last refl) (λ e. empty)
chain (suc k) zero n = empty
chain (suc k) (suc m) n =
    by-leb (suc m) n (λ b. Chain (cond b (map (λ l. suc m ∷ l) (parts k (suc m) (n - suc m))) [] ++ parts (suc k) m n))
    (λ h. join (suc m) (chain k (suc m) (n - suc m)) (chain (suc k) m n)
    (every-weaken (λ t i z. meets k m n t i h z) (sound k (suc m) (n - suc m))))
    (λ h. chain (suc k) m n)

-- ---- the lists from one on
from-chain : (l : List ℕ) {ls : List (List ℕ)} → Chain ls → Chain (from l ls)
unfolding from
from-chain l empty = empty
from-chain l (last {x = x} h) = by-same l x (λ b. Chain (cond b (x ∷ []) [])) (λ _. last h) (λ _. empty)
from-chain l (step {x = x} {y = y} {r = r} h e c) = by-same l x (λ b. Chain (cond b (x ∷ y ∷ r) (from l (y ∷ r)))) (λ _. step h e c) (λ _. from-chain l c)

-- from the second on, where the first of them is before it
from_second : (l y : List ℕ) (r : List (List ℕ)) {ls : List (List ℕ)} → Falling ls → from l ls ≡ l ∷ y ∷ r → from y ls ≡ y ∷ r
unfolding from
from_second l y r end e = absurd (nil≢cons e)
from_second l y r (then {x = x} {xs = xs} g f) e =
    by-same l x (λ b. cond b (x ∷ xs) (from l xs) ≡ l ∷ y ∷ r → from y (x ∷ xs) ≡ y ∷ r)
    (λ _ h. let t = tail-eq_of_cons-eq h in from-there y x xs (greater-not (head_of (subst (Every (Greater x)) t g))) ∙ ap (from y) t ∙ from-here y r)
    (λ _ h. from-there y x xs (greater-not (head_of (tail_of (subst (Every (Greater x)) h (from-every l g))))) ∙ from_second l y r f h)
    e

-- the main law: what follows a list is its next, and the last list has none
pub next-is : (k m n : ℕ) (l y : List ℕ) (r : List (List ℕ)) → from l (parts k m n) ≡ l ∷ y ∷ r →
    (has_next l ≡ true) × (next_of l ≡ y) × (from (next_of l) (parts k m n) ≡ y ∷ r)
next-is k m n l y r e =
    links (subst Chain e (from-chain l (chain k m n)))
  where
    links : Chain (l ∷ y ∷ r) → (has_next l ≡ true) × (next_of l ≡ y) × (from (next_of l) (parts k m n) ≡ y ∷ r)
    links (step h i c) = (h, i, ap (λ x. from x (parts k m n)) i ∙ from_second l y r (falling k m n) e)

pub last-is : (k m n : ℕ) (l : List ℕ) → from l (parts k m n) ≡ l ∷ [] → has_next l ≡ false
last-is k m n l e =
    ends (subst Chain e (from-chain l (chain k m n)))
  where
    ends : Chain (l ∷ []) → has_next l ≡ false
    ends (last h) = h

-- the same, from the test
pub by_next : (k m n : ℕ) (l : List ℕ) (r : List (List ℕ)) (P : Bool → List (List ℕ) → Type 0) → from l (parts k m n) ≡ l ∷ r →
    (has_next l ≡ false → r ≡ [] → P false []) →
    ((s : List (List ℕ)) → has_next l ≡ true → r ≡ next_of l ∷ s → from (next_of l) (parts k m n) ≡ next_of l ∷ s → P true (next_of l ∷ s)) →
    P (has_next l) r
by_next k m n l [] P e f g = let h = last-is k m n l e in subst (λ b. P b []) (sym h) (f h refl)
by_next k m n l (y ∷ r) P e f g =
    let i = next-is k m n l y r e in
    subst (λ b. P b (y ∷ r)) (sym i.0) (subst (λ z. P true (z ∷ r)) i.1 (g r i.0 (ap (λ z. z ∷ r) (sym i.1)) (i.2 ∙ ap (λ z. z ∷ r) (sym i.1))))

-- ---- what the next keeps
pub next-same : (l : List ℕ) → has_next l ≡ false → next_of l ≡ l
unfolding next_of has_next
next-same [] h = refl
next-same (a ∷ t) h = stays (a ∷ next_of t) ((a - 1) ∷ greatest (length t) (total t + 1) (a - 1)) (a ∷ t) (has_next t) (can_init (length t) (total t + 1) (a - 1)) h
  where
    stays : (x y z : List ℕ) (b c : Bool) → cond b true c ≡ false → cond b x (cond c y z) ≡ z
    stays x y z true c e = absurd (true≢false e)
    stays x y z false true e = absurd (true≢false e)
    stays x y z false false e = refl

pub greatest-length : (k n m : ℕ) → length (greatest k n m) ≡ k
unfolding greatest
greatest-length zero n m = refl
greatest-length (suc k) n m = ap suc (greatest-length k _ _)

pub next-length : (l : List ℕ) → length (next_of l) ≡ length l
unfolding next_of
next-length [] = refl
next-length (a ∷ t) =
    each (a ∷ next_of t) ((a - 1) ∷ greatest (length t) (total t + 1) (a - 1)) (a ∷ t) (has_next t) (can_init (length t) (total t + 1) (a - 1))
    (ap suc (next-length t)) (ap suc (greatest-length (length t) _ _)) refl
  where
    each : (x y z : List ℕ) {n : ℕ} (b c : Bool) → length x ≡ n → length y ≡ n → length z ≡ n → length (cond b x (cond c y z)) ≡ n
    each x y z true c p q r = p
    each x y z false true p q r = q
    each x y z false false p q r = r

-- the next of a list of the lists is one too: nonincreasing, with the same length and sum
pub next-keeps : (k m n : ℕ) (l : List ℕ) → Is k m n l → Is k m n (next_of l)
next-keeps k m n l i =
    let f = from_member l (complete k m n l i) in
    by_next k m n l f.0 (λ _ _. Is k m n (next_of l)) f.1
    (λ h _. subst (Is k m n) (sym (next-same l h)) i)
    (λ s _ _ e. head_of (subst (Every (Is k m n)) e (from-every (next_of l) (sound k m n))))
