-- What an answer of a checked operation says: its numbers were answered, and the result is that of the integers. Assumes nothing.
use Rattle.std.proofs.Common.{◌≡◌, refl, sym, ap, ◌∙◌, Bool, true, false, cond, ℕ, zero, suc, ◌*◌, ◌/◌, ◌%◌, arith, eqb, ℤ, pos, negsuc, neg_ℤ, ◌*ℤ◌, nat_abs, Ok, Err, is_ok, MatchResult}
use Rattle.std.proofs.Math.Nat.{div-add-mod', mul-mod_left, zero-mul}
use Rattle.std.proofs.lemmas.Bool.{eqb-true}
use Rattle.std.specs.Int.Signed.{quot_z, rem_z}
use Rattle.std.specs.Result.{result_unwrap_or}
use Rattle.refusals.specs.declared.Refusal.{Refusal}
use Rattle.refusals.specs.declared.Refusal.TheVariants.{DivisionByZero, Remainder, OutOfRange}
use Rattle.whole.specs.Checked.{Whole, in_range, formed, divided, both, Both}
use Rattle.whole.proofs.Range.{never, nat_abs-neg}

-- ---- a number is no refusal
abbrev refused : Refusal → Whole
refused c = Err c

abbrev answer : ℤ → Whole
answer z = Ok z

pub no_answer : {X : Type 0} {c : Refusal} {z : ℤ} → refused c ≡ Ok z → X
no_answer e = never (ap is_ok e)

pub same-value : {x y : ℤ} → answer x ≡ Ok y → x ≡ y
same-value {x = x} e = ap (λ (w : Whole). result_unwrap_or w x) e

-- ---- a number formed
formed-by : (t : Bool) (z y : ℤ) → cond t (Ok z) (Err OutOfRange) ≡ Ok y → (t ≡ true) × (z ≡ y)
formed-by true z y e = (refl, same-value e)
formed-by false z y e = no_answer e

pub formed-answered : (z : ℤ) {y : ℤ} → formed z ≡ Ok y → (in_range z ≡ true) × (z ≡ y)
unfolding formed
formed-answered z {y} e = formed-by (in_range z) z y e

-- ---- an operation on two numbers
pub record Answered (f : ℤ → ℤ → Whole) (x y : Whole) (z : ℤ) : Type 0 where
  pub left : ℤ
  pub right : ℤ
  pub left_is : x ≡ Ok left
  pub right_is : y ≡ Ok right
  pub result : f left right ≡ Ok z

pub both-answered : (f : ℤ → ℤ → Whole) (x y : Whole) {z : ℤ} → both f x y ≡ Ok z → Answered f x y z
both-answered f (Ok a) (Ok b) e = record { left = a; right = b; left_is = refl; right_is = refl; result = e }
both-answered f (Ok a) (Err d) e = no_answer e
both-answered f (Err c) y e = no_answer e

-- a caller whose own refusals are those of the operations hands on the first
pub first-refusal : (f : ℤ → ℤ → Whole) (x y r : Whole) → Both (λ c e. e ≡ c) f x y r → r ≡ both f x y
first-refusal f (Ok a) (Ok b) r h = result-is (f a b) h
  where
    result-is : (w : Whole) → MatchResult w (λ z. r ≡ Ok z) (λ c. (e : Refusal) × (e ≡ c) × (r ≡ Err e)) → r ≡ w
    result-is (Ok z) h = h
    result-is (Err c) h = h.2 ∙ ap Err h.1
first-refusal f (Ok a) (Err d) r h = h
first-refusal f (Err c) y r h = h

-- ---- an exact quotient
divided-by : (t u : Bool) (w : Whole) {q : ℤ} → cond t (Err DivisionByZero) (cond u w (Err Remainder)) ≡ Ok q → (t ≡ false) × (u ≡ true) × (w ≡ Ok q)
divided-by true u w e = no_answer e
divided-by false true w e = (refl, refl, e)
divided-by false false w e = no_answer e

pub divided-answered : (x y : ℤ) {q : ℤ} → divided x y ≡ Ok q → (eqb (nat_abs y) 0 ≡ false) × (eqb (nat_abs (rem_z x y)) 0 ≡ true) × (formed (quot_z x y) ≡ Ok q)
unfolding divided
divided-answered x y e = divided-by (eqb (nat_abs y) 0) (eqb (nat_abs (rem_z x y)) 0) (formed (quot_z x y)) e

pub divided-exact : (x y : ℤ) → eqb (nat_abs y) 0 ≡ false → eqb (nat_abs (rem_z x y)) 0 ≡ true → divided x y ≡ formed (quot_z x y)
unfolding divided
divided-exact x y h k = rw (h, k)

exact-nat : (n d : ℕ) → n % d ≡ 0 → n / d * d ≡ n
exact-nat n d h = omega (arith, h, div-add-mod' n d)

neg-times : (q d : ℕ) → neg_ℤ (pos q) *ℤ pos d ≡ neg_ℤ (pos (q * d))
neg-times zero d = rw (zero-mul d)
neg-times (suc q) d = refl

neg-times-neg : (q d : ℕ) → neg_ℤ (pos q) *ℤ negsuc d ≡ pos (q * suc d)
neg-times-neg zero d = rw (zero-mul (suc d))
neg-times-neg (suc q) d = refl

-- the quotient times the divisor is the dividend
pub quotient-times : (x y : ℤ) → nat_abs (rem_z x y) ≡ 0 → quot_z x y *ℤ y ≡ x
quotient-times (pos a) (pos b) h = ap pos (exact-nat a b h)
quotient-times (pos a) (negsuc b) h = neg-times-neg (a / suc b) b ∙ ap pos (exact-nat a (suc b) h)
quotient-times (negsuc a) (pos b) h = neg-times (suc a / b) b ∙ ap (λ (n : ℕ). neg_ℤ (pos n)) (exact-nat (suc a) b (sym (nat_abs-neg (suc a % b)) ∙ h))
quotient-times (negsuc a) (negsuc b) h = ap (λ (n : ℕ). neg_ℤ (pos n)) (exact-nat (suc a) (suc b) (sym (nat_abs-neg (suc a % suc b)) ∙ h))

pub divided-times : (x y : ℤ) {q : ℤ} → divided x y ≡ Ok q → q *ℤ y ≡ x
divided-times x y e =
    let h = divided-answered x y e in
    ap (λ (z : ℤ). z *ℤ y) (sym (formed-answered (quot_z x y) h.2).1) ∙ quotient-times x y (eqb-true (nat_abs (rem_z x y)) 0 h.1)

-- a product leaves no remainder by its second factor
rem-neg : (n : ℕ) (d : ℤ) → nat_abs (rem_z (neg_ℤ (pos n)) d) ≡ n % nat_abs d
rem-neg zero d = refl
rem-neg (suc n) d = nat_abs-neg (suc n % nat_abs d)

pub product-remainder : (q y : ℤ) → nat_abs (rem_z (q *ℤ y) y) ≡ 0
product-remainder (pos a) (pos b) = mul-mod_left a b
product-remainder (pos a) (negsuc b) = rem-neg (a * suc b) (negsuc b) ∙ mul-mod_left a (suc b)
product-remainder (negsuc a) (pos b) = rem-neg (suc a * b) (pos b) ∙ mul-mod_left (suc a) b
product-remainder (negsuc a) (negsuc b) = mul-mod_left (suc a) (suc b)
