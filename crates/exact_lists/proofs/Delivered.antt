-- An answered jet of whole numbers is written whole: given/proofs/Delivered.antt for each operation over lists that answers a jet.
-- `..-left`: where it answers 0, the list lent has all entries of the jet that the operation answered, by rising order, for a surface by i, then
-- j, and nothing else; where it refuses, that list is as it was. `..-whole`: it refuses what is given, or as the operation does, and nothing else.
-- Assumes nothing.
use mathlib.Core.Path.{◌≡◌, refl, sym, ap, ◌∙◌, subst}
use mathlib.Core.List.{List}
use Prim.Native.Nat.{ℕ, suc, ◌-◌, ◌≤◌}
use native.Mathlib.Nat.{zero-add}
use lib.IntN.{ℤ, pos}
use lib.ListN.{length}
use Rattle.std.specs.Prelude.{Result, Ok, Err}
use Rattle.std.specs.Result.{result_and}
use Rattle.refusals.specs.declared.Refusal.{Refusal}
use Rattle.whole.specs.History.{Verdict, verdict, bare}
use Rattle.whole.proofs.History.{settle-bare}
use Rattle.calculus.specs.Kind.{regular, plain}
use Rattle.calculus.specs.Graded.{triangle}
use Rattle.calculus.specs.Curve.{derivative}
use Rattle.calculus.specs.Surface.{derivative_by}
use Rattle.calculus.specs.Order.{curve_entries, surface_entries}
use Rattle.calculus.specs.Operation.{curve_operation, surface_operation}
use Rattle.calculus.specs.declared.Operation.{Operation}
use Rattle.calculus.specs.declared.By.{By}
use Rattle.calculus.specs.Carry.{composite_derivatives}
use Rattle.calculus.specs.JetKind.{answered, jet_of_list, differentiated}
use Rattle.calculus.proofs.LoopFilling.{listed_at}
use Rattle.calculus.proofs.Operations.{curve-alike, surface-alike}
use Rattle.exact_formulas.specs.Kinds.{checked, traced}
use Rattle.exact.specs.Answer.{wholes, curves, surfaces, parameters, curve_answer, surface_answer, on_curves, on_surfaces}
use Rattle.exact.specs.declared.CurveDerivatives.{CurveDerivatives}
use Rattle.exact.specs.declared.SurfaceDerivatives.{SurfaceDerivatives}
use Rattle.exact.specs.Names.{answered_curve, answered_surface}
use Rattle.exact.specs.Composite.{along_curve}
use Rattle.exact.specs.Judged.{histories}
use Rattle.exact.proofs.Judged.{Settled, settled, Valued, valued, curve-judged, surface-judged}
use Rattle.exact.proofs.CarryJudged.{carried_traces, carry-judged}
use Rattle.given.specs.Lists.{Output, input, output, deliver, over_two, over_two_at, over_one}
use Rattle.given.proofs.Admission.{pair}
use Rattle.given.proofs.Delivered.{Fit, whole, Left, Read, two-whole, two-left, at-whole, at_left, one_left}
use Rattle.given.proofs.Answered.{Kept, Made, made-curves, made-surfaces, less-curves, less-surfaces, less-whole, fit-answered, fit-two, fit_at, answered-delivered}

-- ---- the kinds of exact jet read as they are made
kept : Kept wholes
kept = record { at = λ f w k l. listed_at (pos 0) f 0 w k l ∙ ap f (zero-add k); finite = λ f g n h. refl; among = λ f g n m h e. refl }

reads-curves : Read curves
reads-curves = record { order = λ n x. refl }

reads-surfaces : Read surfaces
reads-surfaces = record { order = λ n x. refl }

curves-made : Made curves
curves-made = made-curves wholes kept curves reads-curves (λ n x. refl) (λ n x. refl) (λ n x. refl)

surfaces-made : Made surfaces
surfaces-made = made-surfaces wholes kept surfaces reads-surfaces (λ n x. refl) (λ n x. refl) (λ n x. refl)

-- ---- a jet that is answered goes whole into a list of its length
module _ (n : ℕ) (h : n ≤ 20) (out : List ℤ) where
  pub curve-delivered : (f : ℕ → ℤ) → length out ≡ suc n → deliver curves (answered_curve n f) out ≡ pair 0 (curve_entries f n)
  curve-delivered f e = answered-delivered curves curves-made n h f refl out e

  pub surface-delivered : (s : ℕ → ℕ → ℤ) → length out ≡ triangle (suc n) → deliver surfaces (answered_surface n s) out ≡ pair 0 (surface_entries s n)
  surface-delivered s e = answered-delivered surfaces surfaces-made n h s refl out e

-- ---- sum, difference, product and quotient, at the smaller order
curve-judged-fits : (n : ℕ) → n ≤ 20 → (f : ℕ → ℤ) (v : Verdict) → Fit curves n (result_and v (answered curves n f))
curve-judged-fits n h f (Ok v) = fit-answered curves curves-made n h f refl
curve-judged-fits n h f (Err c) = tt

surface-judged-fits : (n : ℕ) → n ≤ 20 → (s : ℕ → ℕ → ℤ) (v : Verdict) → Fit surfaces n (result_and v (answered surfaces n s))
surface-judged-fits n h s (Ok v) = fit-answered surfaces surfaces-made n h s refl
surface-judged-fits n h s (Err c) = tt

module _ (op : Operation) where
  curve-fits : (x y : ℕ → ℤ) (n : ℕ) → n ≤ 20 → Fit curves n (curve_answer (curve_operation checked op (λ m. Ok (x m)) (λ m. Ok (y m))) n)
  curve-fits x y n h =
      let g = curve_operation traced op (λ m. bare (x m)) (λ m. bare (y m)) in
      let f = curve_operation plain op x y in
      subst (Fit curves n)
      (sym
      (curve-judged n (curve_operation checked op (λ m. Ok (x m)) (λ m. Ok (y m))) g f
      (curve-alike Settled traced checked settled n op (λ m. bare (x m)) (λ m. bare (y m)) (λ m. Ok (x m)) (λ m. Ok (y m)) (λ m l. settle-bare (x m)) (λ m l. settle-bare (y m)))
      (curve-alike Valued traced plain valued n op (λ m. bare (x m)) (λ m. bare (y m)) x y (λ m l. refl) (λ m l. refl))))
      (curve-judged-fits n h f (verdict (histories (curve_entries g n))))

  surface-fits : (x y : ℕ → ℕ → ℤ) (n : ℕ) → n ≤ 20 → Fit surfaces n (surface_answer (surface_operation checked op (λ i j. Ok (x i j)) (λ i j. Ok (y i j))) n)
  surface-fits x y n h =
      let g = surface_operation traced op (λ i j. bare (x i j)) (λ i j. bare (y i j)) in
      let f = surface_operation plain op x y in
      subst (Fit surfaces n)
      (sym
      (surface-judged n (surface_operation checked op (λ i j. Ok (x i j)) (λ i j. Ok (y i j))) g f
      (surface-alike Settled traced checked settled n op (λ i j. bare (x i j)) (λ i j. bare (y i j)) (λ i j. Ok (x i j)) (λ i j. Ok (y i j)) (λ i j l. settle-bare (x i j)) (λ i j l. settle-bare (y i j)))
      (surface-alike Valued traced plain valued n op (λ i j. bare (x i j)) (λ i j. bare (y i j)) x y (λ i j l. refl) (λ i j l. refl))))
      (surface-judged-fits n h f (verdict (histories (surface_entries g n))))

  module _ (m : ℕ) (a : List ℤ) (n : ℕ) (b out : List ℤ) where
    abbrev two_curves : Output ℤ (Result CurveDerivatives Refusal) → ℕ × List ℤ
    two_curves to = over_two (input curves) (input curves) to (on_curves (curve_operation checked op)) m a n b out

    pub curves-whole : two_curves (output curves) ≡ two_curves (whole curves)
    curves-whole =
        two-whole curves curves curves reads-curves reads-curves (on_curves (curve_operation checked op))
        (fit-two curves curves curves-made curves (λ x y. curve_answer (curve_operation checked op (λ m. Ok (x m)) (λ m. Ok (y m)))) curve-fits) m a n b out

    pub curves-left : Left curves (on_curves (curve_operation checked op) (jet_of_list curves m a) (jet_of_list curves n b)) out (two_curves (output curves))
    curves-left = two-left curves (input curves) (input curves) (on_curves (curve_operation checked op)) m a n b out

    abbrev two_surfaces : Output ℤ (Result SurfaceDerivatives Refusal) → ℕ × List ℤ
    two_surfaces to = over_two (input surfaces) (input surfaces) to (on_surfaces (surface_operation checked op)) m a n b out

    pub surfaces-whole : two_surfaces (output surfaces) ≡ two_surfaces (whole surfaces)
    surfaces-whole =
        two-whole surfaces surfaces surfaces reads-surfaces reads-surfaces (on_surfaces (surface_operation checked op))
        (fit-two surfaces surfaces surfaces-made surfaces (λ x y. surface_answer (surface_operation checked op (λ i j. Ok (x i j)) (λ i j. Ok (y i j)))) surface-fits) m a n b out

    pub surfaces-left : Left surfaces (on_surfaces (surface_operation checked op) (jet_of_list surfaces m a) (jet_of_list surfaces n b)) out (two_surfaces (output surfaces))
    surfaces-left = two-left surfaces (input surfaces) (input surfaces) (on_surfaces (surface_operation checked op)) m a n b out

-- ---- a derivative of a curve, and of a surface by u or by v, of one order less
module _ (n : ℕ) (a out : List ℤ) where
  abbrev of_curve : Output ℤ (Result CurveDerivatives Refusal) → ℕ × List ℤ
  of_curve to = over_one (input curves) to (n - 1) (differentiated curves derivative) n a out

  pub curve-derivative-whole : of_curve (output curves) ≡ of_curve (whole curves)
  curve-derivative-whole = less-whole curves reads-curves derivative (less-curves wholes kept curves reads-curves (λ n x. refl) (λ n x. refl) (λ n x. refl)) n a out

  pub curve-derivative-left : Left curves (differentiated curves derivative (jet_of_list curves n a)) out (of_curve (output curves))
  curve-derivative-left = one_left curves (input curves) (differentiated curves derivative) (n - 1) n a out

  module _ (by : By) where
    abbrev of_surface : Output ℤ (Result SurfaceDerivatives Refusal) → ℕ × List ℤ
    of_surface to = over_one (input surfaces) to (n - 1) (differentiated surfaces (derivative_by by)) n a out

    pub surface-derivative-whole : of_surface (output surfaces) ≡ of_surface (whole surfaces)
    surface-derivative-whole =
        less-whole surfaces reads-surfaces (derivative_by by) (less-surfaces wholes kept surfaces reads-surfaces (λ n x. refl) (λ n x. refl) (λ n x. refl) by) n a out

    pub surface-derivative-left : Left surfaces (differentiated surfaces (derivative_by by) (jet_of_list surfaces n a)) out (of_surface (output surfaces))
    surface-derivative-left = one_left surfaces (input surfaces) (differentiated surfaces (derivative_by by)) (n - 1) n a out

-- ---- the carry, at an order that is asked
carry-fits : (k : ℕ) (s : ℕ → ℕ → ℤ) (w : (ℕ → ℤ) × (ℕ → ℤ)) → k ≤ 20 →
    Fit curves k (curve_answer (composite_derivatives (regular checked) (λ m. Ok (w.0 m)) (λ m. Ok (w.1 m)) (λ i j. Ok (s i j))) k)
carry-fits k s w h =
    subst (Fit curves k) (sym (carry-judged w.0 w.1 s k))
    (curve-judged-fits k h (composite_derivatives (regular plain) w.0 w.1 s) (verdict (histories (curve_entries (carried_traces w.0 w.1 s) k))))

module _ (k m : ℕ) (a : List ℤ) (n : ℕ) (c out : List ℤ) where
  abbrev along : Output ℤ (Result CurveDerivatives Refusal) → ℕ × List ℤ
  along to = over_two_at (input surfaces) (input parameters) to k (λ s w. along_curve s w k) m a n c out

  pub carry-whole : along (output curves) ≡ along (whole curves)
  carry-whole =
      at-whole surfaces parameters curves k (λ s w. along_curve s w k)
      (fit_at surfaces curves curves-made parameters k
      (λ s w. curve_answer (composite_derivatives (regular checked) (λ m. Ok (w.0 m)) (λ m. Ok (w.1 m)) (λ i j. Ok (s i j))) k) (carry-fits k)) m a n c out

  pub carry-left : Left curves (along_curve (jet_of_list surfaces m a) (jet_of_list parameters n c) k) out (along (output curves))
  carry-left = at_left curves (input surfaces) (input parameters) (λ s w. along_curve s w k) m a n c out k
