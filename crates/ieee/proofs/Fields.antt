-- The fields of a positive value's bits give it as a count of the smallest values, and its square root as that of the count. Assumes nothing.
use Rattle.std.proofs.Common.{◌≡◌, refl, sym, ap, ◌∙◌, subst, Bool, true, false, not, cond, ℕ, zero, suc, ◌+◌, ◌-◌, ◌*◌, ◌/◌, ◌%◌, ◌^◌, ◌<◌, zero-lt-suc, mul-div_cancel, mod-eq_of_lt, arith, T, leb, eqb, lit<}
use lib.Dec.{nleb→lt}
use lib.Ieee.{Float, nan, inf, fin, binary64, down, odd, fits, of_fields, of_bits, to_bits, is_nan}
use lib.Ieee.Exact.{HasValue, odd_sign}
use lib.Ieee.Fits.{down_pos}
use lib.Ieee.Positive.{positive}
use lib.Ieee.Bits.{of_bits-to_bits}
use Rattle.ieee.specs.SquareRoot.{square_root, root_of}

-- ---- the definition, by the value
pub root-at : (x : Float) (a : ℕ) → T (positive x) → HasValue x false a (2 ^ 1074) → square_root x ≡ root_of a
unfolding square_root
root-at nan a p h = absurd p
root-at (inf s) a p h = absurd p
root-at (fin true m e) a p h = absurd p
root-at (fin false zero e) a p h = absurd p
root-at (fin false (suc m) e) a p h = ap root_of (ap (λ (x : ℕ). x / down e) h.1 ∙ mul-div_cancel a (down_pos e))

pub no_nan : (x : Float) → T (positive x) → T (not (is_nan x))
unfolding is_nan
no_nan nan p = p
no_nan (inf s) p = absurd p
no_nan (fin s m e) p = tt

-- ---- the fields
odd-positive : (d : ℕ) (s : Bool) (q k l : ℕ) → T (positive (odd d s q k l)) → (s ≡ false) × (0 < q)
unfolding odd
odd-positive d true zero k l p = absurd p
odd-positive d false zero k l p = absurd p
odd-positive d true (suc q) k l p = absurd p
odd-positive d false (suc q) k l p = (refl, zero-lt-suc q)

-- the count of the smallest values that an exponent's field x and the digits t stand for
pub record Read (v : Float) (s : Bool) (x t : ℕ) : Type 0 where
  pub sign : s ≡ false
  pub small : x < 2047
  pub subnormal : x ≡ 0 → (0 < t) × HasValue v false (t * 2 ^ 0) (2 ^ 1074)
  pub normal : (x ≡ 0 → ⊥) → HasValue v false ((2 ^ 52 + t) * 2 ^ (x - 1)) (2 ^ 1074)

not-zero : (x : ℕ) → suc x ≡ 0 → ⊥
not-zero x e = omega arith

pred : (x : ℕ) → suc x - 1 ≡ x
pred x = omega arith

not-ones : (x : ℕ) → x < 2048 → (x ≡ 2047 → ⊥) → x < 2047
not-ones x h n = omega arith

read-fields : (s : Bool) (x t : ℕ) → x < 2048 → T (positive (of_fields binary64 s x t)) → Read (of_fields binary64 s x t) s x t
unfolding of_fields
read-fields s zero t l p =
    let o = odd-positive 53 s t 0 1074 p in
    record {
      sign = o.0;
      small = lit< tt;
      subnormal = λ e. (o.1, subst (λ (b : Bool). HasValue (odd 53 s t 0 1074) b (t * 2 ^ 0) (2 ^ 1074)) o.0 (odd_sign 53 s t 0 1074));
      normal = λ n. absurd (n refl);
    }
read-fields s (suc x) t l p = go (eqb (suc x) 2047) (eqb t 0) (λ e. is x e) p
  where
    is : (x : ℕ) → suc x ≡ 2047 → T (eqb (suc x) 2047)
    is x e = subst (λ (a : ℕ). T (eqb a 2047)) (sym e) tt

    go : (b c : Bool) → (suc x ≡ 2047 → T b) → T (positive (cond b (cond c (inf s) nan) (odd 53 s (2 ^ 52 + t) x 1074)))
        → Read (cond b (cond c (inf s) nan) (odd 53 s (2 ^ 52 + t) x 1074)) s (suc x) t
    go true true e q = absurd q
    go true false e q = absurd q
    go false c e q =
        let o = odd-positive 53 s (2 ^ 52 + t) x 1074 q in
        let v = odd 53 s (2 ^ 52 + t) x 1074 in
        record {
          sign = o.0;
          small = not-ones (suc x) l e;
          subnormal = λ z. absurd (not-zero x z);
          normal = λ n.
              subst (λ (a : ℕ). HasValue v false ((2 ^ 52 + t) * 2 ^ a) (2 ^ 1074)) (sym (pred x))
              (subst (λ (b : Bool). HasValue v b ((2 ^ 52 + t) * 2 ^ x) (2 ^ 1074)) o.0 (odd_sign 53 s (2 ^ 52 + t) x 1074));
        }

of_bits_is : (b : ℕ) → of_bits binary64 b ≡ of_fields binary64 (leb (2 ^ 63) b) (b % 2 ^ 63 / 2 ^ 52) (b % 2 ^ 52)
unfolding of_bits
of_bits_is b = refl

unsigned : (b : ℕ) → leb (2 ^ 63) b ≡ false → b % 2 ^ 63 ≡ b
unsigned b e = mod-eq_of_lt (nleb→lt (2 ^ 63) b (subst (λ (t : Bool). T (not t)) (sym e) tt))

-- of the bits of a positive value
pub read : (x : Float) → T (fits binary64 x) → T (positive x) → Read x false (to_bits binary64 x / 2 ^ 52) (to_bits binary64 x % 2 ^ 52)
read x f p =
    let b = to_bits binary64 x in
    let s = leb (2 ^ 63) b in
    let e : of_fields binary64 s (b % 2 ^ 63 / 2 ^ 52) (b % 2 ^ 52) ≡ x = sym (of_bits_is b) ∙ of_bits-to_bits binary64 x f in
    let r = read-fields s (b % 2 ^ 63 / 2 ^ 52) (b % 2 ^ 52) (omega arith) (subst (λ (v : Float). T (positive v)) (sym e) p) in
    subst (λ (n : ℕ). Read x false (n / 2 ^ 52) (b % 2 ^ 52)) (unsigned b r.sign)
    (subst (λ (t : Bool). Read x t (b % 2 ^ 63 / 2 ^ 52) (b % 2 ^ 52)) r.sign
    (subst (λ (v : Float). Read v s (b % 2 ^ 63 / 2 ^ 52) (b % 2 ^ 52)) e r))
