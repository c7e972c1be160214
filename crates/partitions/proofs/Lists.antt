-- The lists of parts are what they are said to be: nonincreasing, of the given length and sum; all of them; greatest first, each once.
-- Assumes nothing.
use Rattle.std.proofs.Common.{◌≡◌, refl, sym, ap, subst, cond, List, [], ◌∷◌, ◌++◌, map, ℕ, zero, suc, ◌-◌, ◌<◌, arith, leb, length}
use mathlib.Core.List.Memᴰ
use mathlib.Core.List.{Memᴰ}
use Rattle.partitions.specs.Parts.{total, parts}
use Rattle.partitions.proofs.Tests.{by-leb, by_eqb}
use Rattle.partitions.proofs.Down.{Down, none, one, wider}

pub data Every (P : List ℕ → Type 0) : List (List ℕ) → Type 0 where
  nil : Every P []
  and : {x : List ℕ} {xs : List (List ℕ)} → P x → Every P xs → Every P (x ∷ xs)

pub head_of : {P : List ℕ → Type 0} {x : List ℕ} {xs : List (List ℕ)} → Every P (x ∷ xs) → P x
head_of (and p ps) = p

pub tail_of : {P : List ℕ → Type 0} {x : List ℕ} {xs : List (List ℕ)} → Every P (x ∷ xs) → Every P xs
tail_of (and p ps) = ps

every_append : {P : List ℕ → Type 0} {xs ys : List (List ℕ)} → Every P xs → Every P ys → Every P (xs ++ ys)
every_append nil q = q
every_append (and p ps) q = and p (every_append ps q)

every_map : {P Q : List ℕ → Type 0} (f : List ℕ → List ℕ) {xs : List (List ℕ)} → ((l : List ℕ) → P l → Q (f l)) → Every P xs → Every Q (map f xs)
every_map f h nil = nil
every_map f h (and p ps) = and (h _ p) (every_map f h ps)

pub every-weaken : {P Q : List ℕ → Type 0} {xs : List (List ℕ)} → ((l : List ℕ) → P l → Q l) → Every P xs → Every Q xs
every-weaken h nil = nil
every-weaken h (and p ps) = and (h _ p) (every-weaken h ps)

-- a nonincreasing list of k parts from 1 to m with the sum n
pub record Is (k m n : ℕ) (l : List ℕ) : Type 0 where
  pub down : Down m l
  pub long : length l ≡ k
  pub sums : total l ≡ n

pub sound : (k m n : ℕ) → Every (Is k m n) (parts k m n)
unfolding parts total
sound zero m n =
    by_eqb n 0 (λ b. Every (Is 0 m n) (cond b ([] ∷ []) []))
    (λ e. and (record { down = none; long = refl; sums = sym e }) nil) (λ e. nil)
sound (suc k) zero n = nil
sound (suc k) (suc m) n =
    every_append
    (by-leb (suc m) n (λ b. Every (Is (suc k) (suc m) n) (cond b (map (λ l. suc m ∷ l) (parts k (suc m) (n - suc m))) []))
    (λ h. every_map (λ l. suc m ∷ l) (λ l i. record { down = one {m = suc m} {a = m} (omega arith) i.down; long = ap suc i.long; sums = omega (arith, i.sums) }) (sound k (suc m) (n - suc m)))
    (λ h. nil))
    (every-weaken (λ l i. record { down = wider i.down; long = i.long; sums = i.sums }) (sound (suc k) m n))

found : (k m n : ℕ) {l : List ℕ} → Down m l → length l ≡ k → total l ≡ n → Memᴰ l (parts k m n)
unfolding parts total
found zero m n none e t = by_eqb n 0 (λ b. Memᴰ {A = List ℕ} [] (cond b ([] ∷ []) [])) (λ h. Memᴰ.head refl) (λ h. absurd (h (sym t)))
found zero m n (one h d) e t = absurd (omega arith)
found (suc k) zero n none e t = absurd (omega arith)
found (suc k) zero n (one h d) e t = absurd (omega arith)
found (suc k) (suc m) n none e t = absurd (omega arith)
found (suc k) (suc m) n (one {a = a} {l = l} h d) e t =
    by_eqb a m (λ b. Memᴰ (suc a ∷ l) (parts (suc k) (suc m) n))
    (λ p. by-leb (suc m) n (λ b. Memᴰ (suc a ∷ l) (cond b (map (λ r. suc m ∷ r) (parts k (suc m) (n - suc m))) [] ++ parts (suc k) m n))
    (λ g. Memᴰ.append_left (parts (suc k) m n) (Memᴰ.cast (ap (λ x. suc x ∷ l) p)
    (Memᴰ.map (λ r. suc m ∷ r) (found k (suc m) (n - suc m) (subst (λ x. Down (suc x) l) p d) (omega arith) (omega arith)))))
    (λ g. absurd (omega arith)))
    (λ p. Memᴰ.append_right (cond (leb (suc m) n) (map (λ r. suc m ∷ r) (parts k (suc m) (n - suc m))) [])
    (found (suc k) m n (one {m = m} {a = a} (omega arith) d) e t))

pub complete : (k m n : ℕ) (l : List ℕ) → Is k m n l → Memᴰ l (parts k m n)
complete k m n l i = found k m n i.down i.long i.sums

-- the order: greater at the first part that differs
pub data Greater : List ℕ → List ℕ → Type 0 where
  sooner : {a b : ℕ} {l r : List ℕ} → b < a → Greater (a ∷ l) (b ∷ r)
  later : {a : ℕ} {l r : List ℕ} → Greater l r → Greater (a ∷ l) (a ∷ r)

pub data Falling : List (List ℕ) → Type 0 where
  end : Falling []
  then : {x : List ℕ} {xs : List (List ℕ)} → Every (Greater x) xs → Falling xs → Falling (x ∷ xs)

falling-append : {xs ys : List (List ℕ)} → Falling xs → Falling ys → Every (λ x. Every (Greater x) ys) xs → Falling (xs ++ ys)
falling-append end g nil = g
falling-append (then e f) g (and p ps) = then (every_append e p) (falling-append f g ps)

falling-map : (a : ℕ) {xs : List (List ℕ)} → Falling xs → Falling (map (λ l. a ∷ l) xs)
falling-map a end = end
falling-map a (then e f) = then (every_map (λ l. a ∷ l) (λ l g. later g) e) (falling-map a f)

above : {m k : ℕ} (l : List ℕ) {r : List ℕ} → Down m r → length r ≡ suc k → Greater (suc m ∷ l) r
above l none e = absurd (omega arith)
above {m} l (one {a = a} h d) e = sooner {a = suc m} {b = suc a} (omega arith)

pub falling : (k m n : ℕ) → Falling (parts k m n)
unfolding parts
falling zero m n = by_eqb n 0 (λ b. Falling (cond b ([] ∷ []) [])) (λ e. then nil end) (λ e. end)
falling (suc k) zero n = end
falling (suc k) (suc m) n =
    falling-append
    (by-leb (suc m) n (λ b. Falling (cond b (map (λ l. suc m ∷ l) (parts k (suc m) (n - suc m))) [])) (λ h. falling-map (suc m) (falling k (suc m) (n - suc m))) (λ h. end))
    (falling (suc k) m n)
    (by-leb (suc m) n (λ b. Every (λ x. Every (Greater x) (parts (suc k) m n)) (cond b (map (λ l. suc m ∷ l) (parts k (suc m) (n - suc m))) []))
    (λ h. every_map (λ l. suc m ∷ l) (λ l i. every-weaken (λ r j. above l j.down j.long) (sound (suc k) m n)) (sound k (suc m) (n - suc m)))
    (λ h. nil))
