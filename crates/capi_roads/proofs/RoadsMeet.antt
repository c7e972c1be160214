-- The two roads meet, as lists go in and out (document 01's demand 3): where the first road answers, the second writes the same list if every number that it
-- forms lies within signed 64 bits, and is refused 9, with nothing written, if one does not. Assumes nothing.
use Rattle.std.proofs.Common.{Bool, true, false, cond, List, ◌≡◌, ℕ, ℤ, length, Result, Ok, Err, refl, sym, ap, ◌∙◌, arith, eq-eqb, ne_eqb}
use native.Mathlib.Decide.{ℕ_discrete}
use Rattle.refusals.specs.declared.Refusal.{Refusal}
use Rattle.refusals.specs.declared.Refusal.TheVariants.{OutOfRange}
use Rattle.refusals.proofs.Numbers.{number-pos}
use Rattle.whole.specs.Checked.{in_range}
use Rattle.whole.specs.History.{every}
use Rattle.calculus.specs.Array.{listed}
use Rattle.calculus.specs.JetKind.{jet_of_list}
use Rattle.exact.specs.declared.CurveDerivatives.{CurveDerivatives}
use Rattle.exact.specs.Answer.{parameters, curves}
use Rattle.roads.specs.Roads.{build_then_carry, carry_then_build}
use Rattle.roads.specs.Formed.{numbers_formed}
use Rattle.roads.proofs.Theorem.{roads-meet}
use Rattle.given.specs.Lists.{deliver, admitted}
use Rattle.capi_roads.specs.Recipes.{recipe_of, surface_recipe, road_given, road_into}

answered : {X : Type 0} (t : ℕ) (out : List X) (y : ℕ × List X) → (admitted t out y).0 ≡ 0 → (t ≡ 0) × (y.0 ≡ 0)
answered t out y e = by (ℕ_discrete t 0)
  where
    by : Dec (t ≡ 0) → (t ≡ 0) × (y.0 ≡ 0)
    by (yes q) = (q, rw (eq-eqb t 0 q) at e)
    by (no q) = absurd (q (rw (ne_eqb t 0 q) at e))

-- a delivery that gives no number is of a jet
jet-is : (a : Result CurveDerivatives Refusal) (out : List ℤ) → (deliver curves a out).0 ≡ 0 → (j : CurveDerivatives) × (a ≡ Ok j)
unfolding deliver
jet-is (Ok j) out e = (j, refl)
jet-is (Err c) out e = absurd (omega (arith, number-pos c, e))

by-range : (t : ℕ) (out : List ℤ) (a : Result CurveDerivatives Refusal) → t ≡ 0 → (b : Bool) →
    ◌≡◌ {A = ℕ × List ℤ} (admitted t out (deliver curves (cond b a (Err OutOfRange)) out)) (cond b (admitted t out (deliver curves a out)) (9, out))
unfolding deliver
by-range t out a z true = refl
by-range t out a z false = ap (λ (x : ℕ). admitted x out (9, out)) z

four : (orders : List ℕ) (entries : List ℤ) (steps : List ℕ) → length (surface_recipe orders entries steps).jets ≡ 4
unfolding recipe_of listed
four orders entries steps = refl

pub lists-meet : (orders : List ℕ) (entries : List ℤ) (steps : List ℕ) (m : ℕ) (c : List ℤ) (n : ℕ) (out : List ℤ) →
    (road_into build_then_carry orders entries steps m c n out).0 ≡ 0 →
    road_into carry_then_build orders entries steps m c n out
    ≡ cond (every in_range (numbers_formed (surface_recipe orders entries steps) (jet_of_list parameters m c) n)) (road_into build_then_carry orders entries steps m c n out) (9, out)
unfolding road_into
lists-meet orders entries steps m c n out e =
    let r = surface_recipe orders entries steps in
    let p = jet_of_list parameters m c in
    let a = build_then_carry r p n in
    let t = road_given orders (length entries) steps m (length c) n (length out) in
    let s = answered t out (deliver curves a out) e in
    let z = jet-is a out s.1 in
    ap (λ (x : Result CurveDerivatives Refusal). admitted t out (deliver curves x out)) (roads-meet r p n (four orders entries steps) z.1)
    ∙ ap (λ (x : Result CurveDerivatives Refusal). admitted t out (deliver curves (cond (every in_range (numbers_formed r p n)) x (Err OutOfRange)) out)) (sym z.1)
    ∙ by-range t out a s.0 (every in_range (numbers_formed r p n))
