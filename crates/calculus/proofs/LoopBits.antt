-- What a loop of the carry needs of lists of parts: the factors of the parts still to come, the bits of a mask, and where the entry that they name
-- stands. Assumes nothing.
use Rattle.std.proofs.Common.{◌≡◌, refl, ◌∙◌, ap, subst, List, [], ◌∷◌, ℕ, zero, suc, ◌+◌, ◌-◌, ◌*◌, ◌/◌, ◌%◌, ◌^◌, ◌≤◌, ◌<◌, pow-suc, one-mul, mod-eq_of_lt, pow_mono, arith, eq-eqb, ne_eqb, length, drop, get_or, drop_of_length-le}
use lib.Count as Count
use Rattle.partitions.proofs.Slices.{drop_at}
use Rattle.calculus.specs.Kind.{Kind}
use Rattle.calculus.specs.Carry.{digits, factors, ones, coordinates, surface_entry}
use Rattle.calculus.specs.Graded.{index}
use Rattle.calculus.proofs.CarryAlike.{digits-length, ones-le}

module _ {S : Type 0} (K : Kind S) (d : ℕ) (c : ℕ → ℕ → S) where
  pub factors-at : (x : S) (l : List ℕ) (p mask : ℕ) → p < length l →
      factors K d c x (drop p l) mask ≡ factors K d c (K.times x (c (mask % d) (get_or l p 0))) (drop (p + 1) l) (mask / d)
  unfolding factors
  factors-at x l p mask h = ap (λ r. factors K d c x r mask) (drop_at l p h)

  pub factors-past : (x : S) (l : List ℕ) (p mask : ℕ) → length l ≤ p → factors K d c x (drop p l) mask ≡ x
  unfolding factors
  factors-past x l p mask h = ap (λ r. factors K d c x r mask) (drop_of_length-le l h)

-- the ones count of a mask with a bit for each part
pub ones-digits : (l : List ℕ) (mask : ℕ) → mask < 2 ^ length l → Count.ones mask ≡ ones (digits 2 l mask)
unfolding ones digits Count.ones Count.ones_in
ones-digits [] zero h = refl
ones-digits [] (suc n) h = absurd (omega arith)
ones-digits (a ∷ l) mask h = Count.ones_step mask ∙ ap (λ n. mask % 2 + n) (ones-digits l (mask / 2) (half (2 ^ length l) mask (rw pow-suc at h)))
  where
    half : (m n : ℕ) → n < m * 2 → n / 2 < m
    half m n g = omega arith

-- the bit of a part names its coordinate
module _ {S : Type 0} (u v : ℕ → S) (bit a : ℕ) (x : S) where
  pub by-u : bit ≡ 0 → x ≡ u a → x ≡ coordinates u v bit a
  by-u h e = rw (eq-eqb bit 0 h) e

  pub by-v : ¬ (bit ≡ 0) → x ≡ v a → x ≡ coordinates u v bit a
  by-v h e = rw (ne_eqb bit 0 h) e

-- a mask with t ones names the entry that stands t places before the last of its total order
pub entry_at : {A : Type 0} (at : ℕ → A) (l : List ℕ) (mask : ℕ) → mask < 2 ^ length l →
    surface_entry (λ i j. at (index i j)) (digits 2 l mask) ≡ at (length l * (length l + 1) / 2 + length l - Count.ones mask)
unfolding index
entry_at at l mask h =
    let e = ones-digits l mask h in
    let g = digits-length 2 l mask in
    let k = ones-le l mask in
    ap at (place (length (digits 2 l mask)) (ones (digits 2 l mask)) (length l) (Count.ones mask) g e k)
  where
    place : (m t n s : ℕ) → m ≡ n → s ≡ t → t ≤ n → (m - t + t) * (m - t + t + 1) / 2 + (m - t) ≡ n * (n + 1) / 2 + n - s
    place m t n s p q r = let f : m - t + t ≡ n = omega arith in rw f (omega arith)

-- ---- bounds for lists of up to 20 parts
pub masks-le : (n : ℕ) → n ≤ 20 → 2 ^ n ≤ 1048576
masks-le n h = pow_mono h

-- 1 << n
pub masks-shift : (n : ℕ) → n ≤ 20 → 1 * 2 ^ n % 4294967296 ≡ 2 ^ n
masks-shift n h = ap (λ x. x % 4294967296) (one-mul (2 ^ n)) ∙ mod-eq_of_lt (small (2 ^ n) (masks-le n h))
  where
    small : (x : ℕ) → x ≤ 1048576 → x < 4294967296
    small x k = omega arith

-- a mask of the loop has a bit for each part, and at most as many ones
module _ (l : List ℕ) (h : length l ≤ 20) {mask : ℕ} (b : mask < 1 * 2 ^ length l % 4294967296) where
  pub mask-below : mask < 2 ^ length l
  mask-below = subst (λ x. mask < x) (masks-shift (length l) h) b

  pub few-ones : Count.ones mask ≤ length l
  few-ones = Count.ones-le (length l) mask mask-below
