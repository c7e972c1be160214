-- One step: an operation on surfaces that is answered is carried to the operation on the carried, over the integers, every division of which is
-- exact. Assumes nothing.
use Rattle.std.proofs.Common.{◌≡◌, refl, sym, ap, ◌∙◌, subst, false, Ok, ℕ, suc, ◌+◌, ◌≤◌, le_refl, arith, eqb, ℤ, pos, nat_abs, eqb-true}
use lib.Signed.{rem_z}
use borrow.Author.Tests.{eqb-false}
use Rattle.whole.specs.History.{Traced, Verdict, bare, verdict}
use Rattle.whole.proofs.Range.{nat_abs-zero}
use Rattle.calculus.specs.Kind.{regular, plain}
use Rattle.calculus.specs.Rising.{before}
use Rattle.calculus.specs.Curve
use Rattle.calculus.specs.Surface
use Rattle.calculus.proofs.Related.{CurvesAlike}
use Rattle.calculus.proofs.Rising.{before-below, rising-alike}
use Rattle.calculus.proofs.Alike.{sum_alike, difference-alike, product_by-alike, dividend-alike, surface-quotient-dividend-alike}
use Rattle.calculus.proofs.CarryAlike.{composite-zero}
use Rattle.calculus.proofs.UpTo.{CurvesAgree}
use Rattle.calculus.proofs.Laws.{carried, carry-sum, carry-difference, carry-product, exact-carry-quotient, exact-carry-remainder}
use Rattle.exact_formulas.specs.Kinds.{traced}
use Rattle.exact.proofs.Judged.{Valued, valued, Sound, exact_none, sound, sound_module}
use Rattle.calculus.specs.declared.Operation.{Operation}
use Rattle.calculus.specs.declared.Operation.TheVariants.{Sum, Difference, Product, Quotient}
use Rattle.calculus.specs.Operation.{curve_operation, surface_operation}
use Rattle.roads.proofs.Sound.{sound-over, over-answered}

-- ---- tests of a divisor and of a remainder
not-zero : (z : ℤ) → eqb (nat_abs z) 0 ≡ false → ¬ (z ≡ pos 0)
not-zero z h e = eqb-false (nat_abs z) 0 h (ap nat_abs e)

as-given : (n : ℕ) (f : ℕ → ℤ) → CurvesAlike Sound n (λ i. bare (f i)) f
as-given n f i l = (refl, exact_none)

-- ---- a quotient of given curves whose divisions are all exact
module _ (n : ℕ) (a b : ℕ → ℤ) where
  abbrev given_a : ℕ → Traced
  given_a i = bare (a i)

  abbrev given_b : ℕ → Traced
  given_b i = bare (b i)

  quotient-sound : eqb (nat_abs (b 0)) 0 ≡ false → ((m : ℕ) → m ≤ n → rem_z (Curve.quotient_dividend plain a b m) (b 0) ≡ pos 0) →
      CurvesAlike Sound n (Curve.quotient traced given_a given_b) (Curve.quotient plain a b)
  quotient-sound z h m l =
      rising-alike (λ i (s t : Traced). Sound s (Curve.quotient plain a b i)) traced.zero traced.zero
      (Curve.quotient_entry traced given_a given_b) (Curve.quotient_entry traced given_a given_b) (suc n)
      (λ i k f g e.
      sound-over (Curve.dividend traced given_a given_b f i) (Curve.quotient_dividend plain a b i) (b 0) (dividend i (omega arith) f e) z
      (ap (λ x. eqb (nat_abs x) 0) (h i (omega arith))))
      m (omega arith)
    where
      dividend : (i : ℕ) → i ≤ n → (f : ℕ → Traced) → ((j : ℕ) → suc j ≤ i → Sound (f j) (Curve.quotient plain a b j)) →
          Sound (Curve.dividend traced given_a given_b f i) (Curve.quotient_dividend plain a b i)
      dividend i k f e =
          dividend-alike Sound _ _ sound n given_a given_b a b (as-given n a) (as-given n b) i k f (before (pos 0) (Curve.quotient_entry plain a b) i)
          (λ j o. subst (Sound (f j)) (sym (before-below (pos 0) (Curve.quotient_entry plain a b) i j o)) (e j o))

-- ---- an answered operation on surfaces a and b, up to the order N, along the curve (u, v)
module _ (u v : ℕ → ℤ) (a b : ℕ → ℕ → ℤ) (N : ℕ) where
  abbrev operated : Operation → ℕ → ℕ → Traced
  operated op = surface_operation traced op (λ i j. bare (a i j)) (λ i j. bare (b i j))

  abbrev pub Answered : Operation → Type 0
  Answered op = (i j : ℕ) → i + j ≤ N → ◌≡◌ {A = Verdict} (verdict (operated op i j).history) (Ok tt)

  divides : Answered Quotient → (i j : ℕ) → i + j ≤ N → (eqb (nat_abs (b 0 0)) 0 ≡ false) × (rem_z (Surface.quotient_dividend plain a b i j) (b 0 0) ≡ pos 0)
  divides h i j l =
      let d = over-answered (Surface.quotient_dividend traced (λ i j. bare (a i j)) (λ i j. bare (b i j)) i j) (b 0 0) (h i j l) in
      let e : (Surface.quotient_dividend traced (λ i j. bare (a i j)) (λ i j. bare (b i j)) i j).value ≡ Surface.quotient_dividend plain a b i j =
      surface-quotient-dividend-alike Valued traced plain valued (i + j) (λ i j. bare (a i j)) (λ i j. bare (b i j)) a b (λ i j l. refl) (λ i j l. refl) i j (le_refl (i + j))
      in
      (d.0, ap (λ x. rem_z x (b 0 0)) (sym e) ∙ nat_abs-zero _ (eqb-true _ 0 d.1))

  divisor : Answered Quotient → eqb (nat_abs (b 0 0)) 0 ≡ false
  divisor h = (divides h 0 0 (omega arith)).0

  module _ (n : ℕ) (k : n ≤ N) where
    pub carry-operation : (op : Operation) → Answered op → CurvesAgree n (curve_operation plain op (carried u v a) (carried u v b)) (carried u v (surface_operation plain op a b))
    carry-operation Sum h i l = sym (carry-sum u v a b i)
    carry-operation Difference h i l = sym (carry-difference u v a b i)
    carry-operation Product h i l = sym (carry-product u v a b i)
    carry-operation Quotient h i l = exact-carry-quotient u v N a b (not-zero (b 0 0) (divisor h)) (λ i j l. (divides h i j l).1) i (omega arith)

    pub carry-exact : (op : Operation) → Answered op →
        CurvesAlike Sound n (curve_operation traced op (λ i. bare (carried u v a i)) (λ i. bare (carried u v b i))) (curve_operation plain op (carried u v a) (carried u v b))
    carry-exact Sum h = sum_alike Sound Sound (regular traced) (regular plain) sound_module n (as-given n (carried u v a)) (as-given n (carried u v b))
    carry-exact Difference h = difference-alike Sound Sound (regular traced) (regular plain) sound_module n (as-given n (carried u v a)) (as-given n (carried u v b))
    carry-exact Product h =
        product_by-alike Sound Sound (regular traced) (regular plain) sound_module n Sound Sound traced.times plain.times sound.times
        (λ i. bare (carried u v a i)) (λ i. bare (carried u v b i)) (carried u v a) (carried u v b) (as-given n (carried u v a)) (as-given n (carried u v b))
    carry-exact Quotient h =
        quotient-sound n (carried u v a) (carried u v b) (subst (λ x. eqb (nat_abs x) 0 ≡ false) (sym (composite-zero (regular plain) u v b)) (divisor h))
        (λ m l. exact-carry-remainder u v N a b (not-zero (b 0 0) (divisor h)) (λ i j l. (divides h i j l).1) m (omega arith))
