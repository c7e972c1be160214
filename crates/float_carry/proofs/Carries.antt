-- The carry of floats and of vectors: its terms by what the loops hold, and the carried jet by order. Assumes nothing.
use Rattle.std.proofs.Common.{◌≡◌, List, Float, ℕ, zero, suc, refl, suc-ne-zero}
use Rattle.ieee_vectors.specs.declared.Vector3.{Vector3}
use Rattle.calculus.specs.Kind.{Module, regular}
use Rattle.calculus.specs.Carry.{digits, ones, factors, summand, through_len, coordinates, surface_entry, composite_derivative, composite_derivatives}
use Rattle.formulas.specs.Real.{real}
use Rattle.formulas.specs.Numbers.{curve_numbers, surface_numbers}
use Rattle.vector_formulas.specs.Vector.{vectors, vector_surface_numbers}

-- ---- a surface s, of floats or of vectors, along the curve whose entries the arrays u and v hold
module _ {A : Type 0} (M : Module Float A) (s : ℕ → ℕ → A) (u v : List Float) where
  abbrev pub term_of : List ℕ → ℕ → A
  term_of l mask =
      let K = M.scalars in
      M.scale (surface_entry s (digits 2 l mask)) (factors K 2 (coordinates (curve_numbers u) (curve_numbers v)) K.one l mask)

  abbrev pub terms : List ℕ → A
  terms = summand M 2 (coordinates (curve_numbers u) (curve_numbers v)) (surface_entry s)

  abbrev pub through : ℕ → ℕ → A
  through = through_len M 2 (coordinates (curve_numbers u) (curve_numbers v)) (surface_entry s)

  -- the surface's value at order 0, and a derivative at every other
  abbrev pub carried : ℕ → A
  carried = composite_derivatives M (curve_numbers u) (curve_numbers v) s

  pub carried-value : (m : ℕ) → m ≡ 0 → s 0 0 ≡ carried m
  unfolding ones
  carried-value zero e = refl
  carried-value (suc m) e = absurd (suc-ne-zero m e)

  pub carried-derivative : (m : ℕ) → ¬ (m ≡ 0) → composite_derivative M (curve_numbers u) (curve_numbers v) s m ≡ carried m
  carried-derivative zero f = absurd (f refl)
  carried-derivative (suc m) f = refl

abbrev pub carried_jet : (entries u v : List Float) → ℕ → Float
carried_jet entries = carried (regular real) (surface_numbers entries)

abbrev pub carried_vectors : (entries u v : List Float) → ℕ → Vector3
carried_vectors entries = carried vectors (vector_surface_numbers entries)
