-- The centre and the contacts, by the tests for a zero that led to them. Assumes nothing.
use Rattle.std.proofs.Common.{◌≡◌, sym, Bool, cond, ℕ, eqb, Ok, Err}
use Rattle.refusals.specs.declared.Refusal.TheVariants.{ZeroDeterminant, DivisionByZero}
use Rattle.ieee_vectors.specs.Matrices.{determinant2, determinant3}
use Rattle.formulas.specs.Real.{is_zero}
use Rattle.formulas.specs.Numbers.{curve_numbers}
use Rattle.surface_info.specs.SurfaceInfo.{offset, form}
use Rattle.contacts.specs.Center.{jet0, jet1, start, planes, formed, found, center_contacts}
use Rattle.contacts.specs.declared.Place.{Place}

module _ (p : Place) where
  -- what is inverted, and what is divided by
  abbrev pub planes-zero : Bool
  planes-zero = is_zero (determinant3 (planes p))

  abbrev pub form0-zero : Bool
  form0-zero = is_zero (determinant2 (form (jet0 p) (offset (start p).center (start p).info0.carried.point 0)))

  abbrev pub form1-zero : Bool
  form1-zero = is_zero (determinant2 (form (jet1 p) (offset (start p).center (start p).info1.carried.point 0)))

  abbrev pub norm0-zero : Bool
  norm0-zero = is_zero (curve_numbers (start p).info0.normal.norm 0)

  abbrev pub norm1-zero : Bool
  norm1-zero = is_zero (curve_numbers (start p).info1.normal.norm 0)

module _ (p : Place) (n : ℕ) where
  pub solved : {b0 b1 b2 b3 b4 b5 : Bool} → eqb n 0 ≡ b0 → planes-zero p ≡ b1 → form0-zero p ≡ b2 → norm0-zero p ≡ b3 → form1-zero p ≡ b4 → norm1-zero p ≡ b5 →
      cond b0 (Ok (found (formed p n))) (cond b1 (Err ZeroDeterminant) (cond b2 (Err ZeroDeterminant) (cond b3 (Err DivisionByZero)
      (cond b4 (Err ZeroDeterminant) (cond b5 (Err DivisionByZero) (Ok (found (formed p n)))))))) ≡ center_contacts p n
  unfolding center_contacts
  solved e0 e1 e2 e3 e4 e5 =
      let r = Ok (found (formed p n)) in
      λ i. cond (sym e0 i) r (cond (sym e1 i) (Err ZeroDeterminant) (cond (sym e2 i) (Err ZeroDeterminant) (cond (sym e3 i) (Err DivisionByZero)
      (cond (sym e4 i) (Err ZeroDeterminant) (cond (sym e5 i) (Err DivisionByZero) r)))))
