-- Which lists are among the lists, and the lists from one on.
-- Assumes nothing.
use Rattle.std.proofs.Common.{◌≡◌, refl, sym, ◌∙◌, ap, ap₂, subst, Bool, true, false, cond, true≢false, List, [], ◌∷◌, ℕ, zero, suc, ◌≤◌, ◌<◌, arith, ltb, length, get_or, eq-eqb, ne_eqb}
use mathlib.Core.List.{Memᴰ, nil≢cons, head-eq_of_cons-eq}
use Rattle.partitions.specs.Parts.{total, parts, lists}
use Rattle.partitions.specs.Walk.{same, from}
use Rattle.partitions.specs.Count.{falls, is_list}
use Rattle.partitions.proofs.Tests.{by-leb, by_eqb}
use Rattle.partitions.proofs.Down.{Down, none, one}
use Rattle.partitions.proofs.Lists.{Every, nil, and, head_of, every-weaken, Is, sound, complete, Greater, sooner, later}

-- ---- `same` is equality
pub same_refl : (l : List ℕ) → same l l ≡ true
unfolding same
same_refl [] = refl
same_refl (a ∷ l) = ap (λ b. cond b (same l l) false) (eq-eqb a a refl) ∙ same_refl l

pub same-is : (l r : List ℕ) → same l r ≡ true → l ≡ r
unfolding same
same-is [] [] e = refl
same-is [] (b ∷ r) e = absurd (true≢false (sym e))
same-is (a ∷ l) [] e = absurd (true≢false (sym e))
same-is (a ∷ l) (b ∷ r) e =
    by_eqb a b (λ t. cond t (same l r) false ≡ true → Path (List ℕ) (a ∷ l) (b ∷ r))
    (λ h g. ap₂ (λ x y. x ∷ y) h (same-is l r g)) (λ _ g. absurd (true≢false (sym g))) e

pub same-yes : (l r : List ℕ) → l ≡ r → same l r ≡ true
same-yes l r e = subst (λ x. same l x ≡ true) e (same_refl l)

pub by-same : (l r : List ℕ) (P : Bool → Type 0) → (l ≡ r → P true) → (¬ (l ≡ r) → P false) → P (same l r)
by-same l r P f g = split (same l r) refl
  where
    split : (b : Bool) → same l r ≡ b → P b
    split true e = f (same-is l r e)
    split false e = g (λ h. true≢false (sym (same-yes l r h) ∙ e))

pub same-no : (l r : List ℕ) → ¬ (l ≡ r) → same l r ≡ false
same-no l r n = by-same l r (λ b. b ≡ false) (λ e. absurd (n e)) (λ _. refl)

pub greater-not : {x y : List ℕ} → Greater x y → same y x ≡ false
unfolding same
greater-not (sooner {a = a} {b = b} {l = l} {r = r} h) = ap (λ t. cond t (same r l) false) (ne_eqb b a (λ e. omega arith))
greater-not (later {a = a} {l = l} {r = r} g) = ap (λ t. cond t (same r l) false) (eq-eqb a a refl) ∙ greater-not g

-- ---- the lists from one on
pub from-here : (l : List ℕ) (xs : List (List ℕ)) → from l (l ∷ xs) ≡ l ∷ xs
unfolding from
from-here l xs = ap (λ b. cond b (l ∷ xs) (from l xs)) (same_refl l)

pub from-there : (l x : List ℕ) (xs : List (List ℕ)) → same l x ≡ false → from l (x ∷ xs) ≡ from l xs
unfolding from
from-there l x xs h = ap (λ b. cond b (x ∷ xs) (from l xs)) h

pub from-every : {P : List ℕ → Type 0} (l : List ℕ) {xs : List (List ℕ)} → Every P xs → Every P (from l xs)
unfolding from
from-every l nil = nil
from-every {P} l (and {x = x} {xs = xs} p ps) = by-same l x (λ b. Every P (cond b (x ∷ xs) (from l xs))) (λ _. and p ps) (λ _. from-every l ps)

pub from_member : (l : List ℕ) {xs : List (List ℕ)} → Memᴰ l xs → (r : List (List ℕ)) × (from l xs ≡ l ∷ r)
unfolding from
from_member l (Memᴰ.head {x = x} {xs = xs} e) = (xs, ap (λ z. from l (z ∷ xs)) (sym e) ∙ from-here l xs)
from_member l (Memᴰ.tail {x = x} {xs = xs} m) =
    by-same l x (λ b. (r : List (List ℕ)) × (cond b (x ∷ xs) (from l xs) ≡ l ∷ r)) (λ e. (xs, ap (λ z. z ∷ xs) (sym e))) (λ _. from_member l m)

-- no member: none of the lists is l
pub from-none : (l : List ℕ) {xs : List (List ℕ)} → Every (λ x. ¬ (l ≡ x)) xs → from l xs ≡ []
unfolding from
from-none l nil = refl
from-none l (and {x = x} {xs = xs} n e) = from-there l x xs (same-no l x n) ∙ from-none l e

-- ---- the test of a list's shape
pub down-falls : {m : ℕ} {l : List ℕ} → Down m l → falls m l ≡ true
unfolding falls
down-falls none = refl
down-falls {m} (one {a = a} {l = l} h d) =
    ap (λ b. cond b false (cond (ltb m (suc a)) false (falls (suc a) l))) (ne_eqb (suc a) 0 (λ e. omega arith))
    ∙ by-leb (suc m) (suc a) (λ b. cond b false (falls (suc a) l) ≡ true) (λ g. absurd (omega arith)) (λ g. down-falls d)

pub falls_down : (m : ℕ) (l : List ℕ) → falls m l ≡ true → Down m l
unfolding falls
falls_down m [] e = none
falls_down m (zero ∷ l) e = absurd (true≢false (sym e))
falls_down m (suc a ∷ l) e =
    by-leb (suc m) (suc a) (λ b. cond b false (falls (suc a) l) ≡ true → Down m (suc a ∷ l))
    (λ _ g. absurd (true≢false (sym g))) (λ h g. one {m = m} {a = a} (omega arith) (falls_down (suc a) l g))
    (ap (λ b. cond b false (cond (ltb m (suc a)) false (falls (suc a) l))) (sym (ne_eqb (suc a) 0 (λ z. omega arith))) ∙ e)

-- the bound may be any number that is at least the first part
pub down-least : {m n : ℕ} {l : List ℕ} → Down m l → total l ≤ n → Down n l
unfolding total
down-least none h = none
down-least {n = n} (one {a = a} {l = l} g d) h = one {m = n} {a = a} (omega arith) d

pub list-down : (l : List ℕ) → is_list l ≡ true → Down (total l) l
list-down [] e = none
list-down (a ∷ l) e = down-least (falls_down a (a ∷ l) e) (omega arith)

pub down-list : {m a : ℕ} {l : List ℕ} → Down m (a ∷ l) → is_list (a ∷ l) ≡ true
down-list (one {a = a} h d) = down-falls (one {m = suc a} {a = a} (omega arith) d)

-- ---- the parts' bounds
pub part-least : {m : ℕ} {l : List ℕ} → Down m l → (i : ℕ) → i < length l → 1 ≤ get_or l i 0
part-least none i h = absurd (omega arith)
part-least (one g d) zero h = omega arith
part-least (one g d) (suc i) h = part-least d i (omega arith)

pub part-total : (l : List ℕ) (i : ℕ) → get_or l i 0 ≤ total l
unfolding total
part-total [] i = omega arith
part-total (a ∷ l) zero = omega arith
part-total (a ∷ l) (suc i) = omega (arith, part-total l i)

-- ---- which lists are among the lists: those of the length that fall and have the sum
pub listed : (n k : ℕ) (l : List ℕ) → length l ≡ k → falls n l ≡ true → total l ≡ n → (r : List (List ℕ)) × (from l (lists n k) ≡ l ∷ r)
listed n k l e f t = from_member l (complete k n n l (record { down = falls_down n l f; long = e; sums = t }))

pub unlisted : (n k : ℕ) (l : List ℕ) → ¬ (Is k n n l) → from l (lists n k) ≡ []
unlisted n k l h = from-none l (every-weaken (λ x i e. h (subst (Is k n n) (sym e) i)) (sound k n n))

pub unlisted-falls : (n k : ℕ) (l : List ℕ) → falls n l ≡ false → from l (lists n k) ≡ []
unlisted-falls n k l f = unlisted n k l (λ i. true≢false (sym (down-falls i.down) ∙ f))

pub unlisted-total : (n k : ℕ) (l : List ℕ) → ¬ (total l ≡ n) → from l (lists n k) ≡ []
unlisted-total n k l t = unlisted n k l (λ i. t i.sums)

-- what stands from l on begins with l and is one of the lists
pub from_is : (k m n : ℕ) (l x : List ℕ) (r : List (List ℕ)) → from l (parts k m n) ≡ x ∷ r → Is k m n x
from_is k m n l x r e = head_of (subst (Every (Is k m n)) e (from-every l (sound k m n)))

pub from-head : (l x : List ℕ) (r xs : List (List ℕ)) → from l xs ≡ x ∷ r → l ≡ x
unfolding from
from-head l x r [] e = absurd (nil≢cons e)
from-head l x r (y ∷ ys) e =
    by-same l y (λ b. cond b (y ∷ ys) (from l ys) ≡ x ∷ r → l ≡ x) (λ h g. h ∙ head-eq_of_cons-eq g) (λ _ g. from-head l x r ys g) e
