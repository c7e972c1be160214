-- An answered jet of floats is written whole: given/proofs/Delivered.antt for each operation over lists that answers a jet. What its list lent
-- has then, beside 0 or another number, is `two-left`, `at_left` and `one_left` there. Here: it refuses what is given, or as the operation does,
-- and nothing else. Assumes nothing.
use Rattle.std.proofs.Common.{◌≡◌, refl, ap, ◌∙◌, true, cond, List, ℕ, suc, ◌-◌, ◌≤◌, zero-add, length}
use lib.Ieee.{Float, nan}
use lib.Ieee.Scale.{finite}
use Rattle.std.specs.Prelude.{Result, Err}
use Rattle.refusals.specs.declared.Refusal.{Refusal}
use Rattle.refusals.specs.declared.Refusal.TheVariants.{DivisionByZero}
use Rattle.calculus.specs.Kind.{regular}
use Rattle.calculus.specs.Graded.{triangle}
use Rattle.calculus.specs.Curve as curve
use Rattle.calculus.specs.Surface as surface
use Rattle.calculus.specs.Rational.{rational, surface_rational}
use Rattle.calculus.specs.Carry.{composite_derivatives}
use Rattle.calculus.specs.Order.{curve_entries, surface_entries}
use Rattle.calculus.specs.declared.By.{By}
use Rattle.calculus.specs.declared.Operation.{Operation}
use Rattle.calculus.specs.declared.Operation.TheVariants.{Sum, Difference, Product, Quotient}
use Rattle.calculus.specs.JetKind.{JetKind, answered, returned, differentiated, by_formula}
use Rattle.calculus.proofs.LoopFilling.{listed_at}
use Rattle.formulas.specs.Real.{real, is_zero}
use Rattle.formulas.specs.Numbers.{finite_curve, finite_surface}
use Rattle.formulas.proofs.Finite.{same}
use Rattle.derivatives.specs.declared.CurveDerivatives.{CurveDerivatives}
use Rattle.derivatives.specs.declared.SurfaceDerivatives.{SurfaceDerivatives}
use Rattle.derivatives.specs.Answer.{floats, curves, surfaces, parameters, by_division}
use Rattle.derivatives.specs.Composite.{along_curve}
use Rattle.given.specs.Lists.{Output, input, output, deliver, over_two, over_two_at, over_one}
use Rattle.given.proofs.Admission.{pair}
use Rattle.given.proofs.Delivered.{by-test, whole, Fit, Read, two-whole}
use Rattle.given.proofs.Answered.{Kept, Made, made-curves, made-surfaces, less-curves, less-surfaces, fit-returned, fit-two, answered-delivered, formula-whole, asked-whole, less-whole}
use Rattle.float_lists.proofs.Finite.{pass-among}

-- ---- the kinds of jet of floats read as they are made
kept : Kept floats
kept = record { at = λ f w k l. listed_at nan f 0 w k l ∙ ap f (zero-add k); finite = same finite; among = pass-among finite }

pub reads-curves : Read curves
reads-curves = record { order = λ n x. refl }

pub reads-surfaces : Read surfaces
reads-surfaces = record { order = λ n x. refl }

pub curves-made : Made curves
curves-made = made-curves floats kept curves reads-curves (λ n x. refl) (λ n x. refl) (λ n x. refl)

pub surfaces-made : Made surfaces
surfaces-made = made-surfaces floats kept surfaces reads-surfaces (λ n x. refl) (λ n x. refl) (λ n x. refl)

-- ---- a jet that is answered goes whole into a list of its length
module _ (n : ℕ) (h : n ≤ 20) (out : List Float) where
  pub curve-delivered : (f : ℕ → Float) → finite_curve f n ≡ true → length out ≡ suc n → deliver curves (answered curves n f) out ≡ pair 0 (curve_entries f n)
  curve-delivered f p e = answered-delivered curves curves-made n h f p out e

  pub surface-delivered : (s : ℕ → ℕ → Float) → finite_surface s n ≡ true → length out ≡ triangle (suc n) → deliver surfaces (answered surfaces n s) out ≡ pair 0 (surface_entries s n)
  surface-delivered s p e = answered-delivered surfaces surfaces-made n h s p out e

-- ---- a quotient, of whatever kinds of jet
pub division-whole : {E J F L G H : Type 0} (K : JetKind Float E J) (M : JetKind Float F L) (R : JetKind Float G H) → Made R → Read K → Read M →
    (first : F → Float) (f : E → F → G) (m : ℕ) (a : List Float) (n : ℕ) (b out : List Float) →
    over_two (input K) (input M) (output R) (by_division K M R first f) m a n b out ≡ over_two (input K) (input M) (whole R) (by_division K M R first f) m a n b out
division-whole K M R s rk rm first f m a n b out =
    two-whole K M R rk rm (by_division K M R first f)
    (fit-two K R s M (λ x y k. cond (is_zero (first y)) (Err DivisionByZero) (returned R k (f x y)))
    (λ x y k h. by-test (Fit R k) (is_zero (first y)) (Err DivisionByZero) (returned R k (f x y)) (λ _. tt) (λ _. fit-returned R s k h (f x y)))) m a n b out

-- ---- sum, difference, product and quotient, at the smaller order
abbrev pub curve_operation : Operation → CurveDerivatives → CurveDerivatives → Result CurveDerivatives Refusal
curve_operation Sum = by_formula curves curves curves (curve.sum (regular real))
curve_operation Difference = by_formula curves curves curves (curve.difference (regular real))
curve_operation Product = by_formula curves curves curves (curve.product real)
curve_operation Quotient = by_division curves curves curves (λ y. y 0) (rational (regular real) real.over)

abbrev pub surface_operation : Operation → SurfaceDerivatives → SurfaceDerivatives → Result SurfaceDerivatives Refusal
surface_operation Sum = by_formula surfaces surfaces surfaces (surface.sum (regular real))
surface_operation Difference = by_formula surfaces surfaces surfaces (surface.difference (regular real))
surface_operation Product = by_formula surfaces surfaces surfaces (surface.product real)
surface_operation Quotient = by_division surfaces surfaces surfaces (λ y. y 0 0) (surface_rational (regular real) real.over)

module _ (m : ℕ) (a : List Float) (n : ℕ) (b out : List Float) where
  abbrev two_curves : Operation → Output Float (Result CurveDerivatives Refusal) → ℕ × List Float
  two_curves op to = over_two (input curves) (input curves) to (curve_operation op) m a n b out

  pub curves-whole : (op : Operation) → two_curves op (output curves) ≡ two_curves op (whole curves)
  curves-whole Sum = formula-whole curves curves curves curves-made m a n b out reads-curves reads-curves (curve.sum (regular real))
  curves-whole Difference = formula-whole curves curves curves curves-made m a n b out reads-curves reads-curves (curve.difference (regular real))
  curves-whole Product = formula-whole curves curves curves curves-made m a n b out reads-curves reads-curves (curve.product real)
  curves-whole Quotient = division-whole curves curves curves curves-made reads-curves reads-curves (λ y. y 0) (rational (regular real) real.over) m a n b out

  abbrev two_surfaces : Operation → Output Float (Result SurfaceDerivatives Refusal) → ℕ × List Float
  two_surfaces op to = over_two (input surfaces) (input surfaces) to (surface_operation op) m a n b out

  pub surfaces-whole : (op : Operation) → two_surfaces op (output surfaces) ≡ two_surfaces op (whole surfaces)
  surfaces-whole Sum = formula-whole surfaces surfaces surfaces surfaces-made m a n b out reads-surfaces reads-surfaces (surface.sum (regular real))
  surfaces-whole Difference = formula-whole surfaces surfaces surfaces surfaces-made m a n b out reads-surfaces reads-surfaces (surface.difference (regular real))
  surfaces-whole Product = formula-whole surfaces surfaces surfaces surfaces-made m a n b out reads-surfaces reads-surfaces (surface.product real)
  surfaces-whole Quotient = division-whole surfaces surfaces surfaces surfaces-made reads-surfaces reads-surfaces (λ y. y 0 0) (surface_rational (regular real) real.over) m a n b out

-- ---- a derivative of a curve, and of a surface by u or by v, of one order less
module _ (n : ℕ) (a out : List Float) where
  abbrev of_curve : Output Float (Result CurveDerivatives Refusal) → ℕ × List Float
  of_curve to = over_one (input curves) to (n - 1) (differentiated curves curve.derivative) n a out

  pub curve-derivative-whole : of_curve (output curves) ≡ of_curve (whole curves)
  curve-derivative-whole = less-whole curves reads-curves curve.derivative (less-curves floats kept curves reads-curves (λ n x. refl) (λ n x. refl) (λ n x. refl)) n a out

  module _ (by : By) where
    abbrev of_surface : Output Float (Result SurfaceDerivatives Refusal) → ℕ × List Float
    of_surface to = over_one (input surfaces) to (n - 1) (differentiated surfaces (surface.derivative_by by)) n a out

    pub surface-derivative-whole : of_surface (output surfaces) ≡ of_surface (whole surfaces)
    surface-derivative-whole =
        less-whole surfaces reads-surfaces (surface.derivative_by by) (less-surfaces floats kept surfaces reads-surfaces (λ n x. refl) (λ n x. refl) (λ n x. refl) by) n a out

-- ---- the carry, at an order that is asked
module _ (k m : ℕ) (a : List Float) (n : ℕ) (c out : List Float) where
  abbrev along : Output Float (Result CurveDerivatives Refusal) → ℕ × List Float
  along to = over_two_at (input surfaces) (input parameters) to k (λ s w. along_curve s w k) m a n c out

  pub carry-whole : along (output curves) ≡ along (whole curves)
  carry-whole = asked-whole surfaces parameters curves curves-made m a n c out k (λ s w. composite_derivatives (regular real) w.0 w.1 s)
