-- Rodrigues' matrix derived by the axis' components, where s, c and k are constant. Assumes nothing.
use Rattle.std.proofs.Common.{ℕ, zero, suc, ◌+◌, ◌≤◌, ◌≡◌, refl, ◌∙◌, ap, arith}
use mathlib.Mathlib.Algebra.Ring.Defs.{CommRing}
use Rattle.rodrigues.specs.Rodrigues.{Arithmetic, Three, Nine, three, symmetric, rodrigues, by_x, by_y, by_z, zeros, by_axis}
use Rattle.rodrigues.proofs.Orders.{third-zero}
use Rattle.rodrigues.proofs.Derivation.{ring, Derivation, each, repeated, same-nine, of_zero, of-neg-zero, of-zeros, zeros-stay}
use Rattle.rodrigues.proofs.Entries.{own_square, other-square, plus-first, minus-first, plus-second, minus-second, plus-third, minus-third, of-double, double-own, double-other, single-own, single-other}

module _ {R : Type 0} (C : CommRing R) (a : Three R) (s c k : R) where
  infixl 6 ◌⊕◌
  infixl 7 ◌⊗◌
  open C use {add as ◌⊕◌, mul as ◌⊗◌, zero as 𝟘, neg as neg, one as 𝟙}

  abbrev K : Arithmetic R
  K = ring C

  -- a derivation by which the axis' derivative is t, and those of s, c and k are zero
  pub record Along (t : Three R) (D : R → R) : Type 0 where
    pub rules : Derivation C D
    pub of-x : D a.x ≡ t.x
    pub of-y : D a.y ≡ t.y
    pub of-z : D a.z ≡ t.z
    pub of-s : D s ≡ 𝟘
    pub of_c : D c ≡ 𝟘
    pub of-k : D k ≡ 𝟘

  abbrev M : Nine R
  M = rodrigues K a s c k

  -- the second derivatives
  abbrev twice : R
  twice = (𝟙 ⊕ 𝟙) ⊗ k

  abbrev by_x_x : Nine R
  by_x_x = symmetric twice 𝟘 𝟘 𝟘 𝟘 𝟘

  abbrev by_y_y : Nine R
  by_y_y = symmetric 𝟘 𝟘 𝟘 twice 𝟘 𝟘

  abbrev by_z_z : Nine R
  by_z_z = symmetric 𝟘 𝟘 𝟘 𝟘 𝟘 twice

  abbrev by_y_z : Nine R
  by_y_z = symmetric 𝟘 𝟘 𝟘 𝟘 k 𝟘

  abbrev by_x_z : Nine R
  by_x_z = symmetric 𝟘 𝟘 k 𝟘 𝟘 𝟘

  abbrev by_x_y : Nine R
  by_x_y = symmetric 𝟘 k 𝟘 𝟘 𝟘 𝟘

  -- ---- one step

  module _ {t : Three R} {D : R → R} (h : Along t D) where
    abbrev o : D 𝟘 ≡ 𝟘
    o = of_zero C h.rules

    abbrev dd : D twice ≡ 𝟘
    dd = of-double C h.rules h.of-k

    abbrev dn : D (neg s) ≡ 𝟘
    dn = of-neg-zero C h.rules h.of-s

    constants : {xx xy xz yy yz zz : R} → D xx ≡ 𝟘 → D xy ≡ 𝟘 → D xz ≡ 𝟘 → D yy ≡ 𝟘 → D yz ≡ 𝟘 → D zz ≡ 𝟘 → each D (symmetric xx xy xz yy yz zz) ≡ zeros K
    constants xx xy xz yy yz zz = same-nine xx xy xz xy yy yz xz yz zz

    xx-zero : each D by_x_x ≡ zeros K
    xx-zero = constants dd o o o o o

    yy-zero : each D by_y_y ≡ zeros K
    yy-zero = constants o o o dd o o

    zz-zero : each D by_z_z ≡ zeros K
    zz-zero = constants o o o o o dd

    yz-zero : each D by_y_z ≡ zeros K
    yz-zero = constants o o o o h.of-k o

    xz-zero : each D by_x_z ≡ zeros K
    xz-zero = constants o o h.of-k o o o

    xy-zero : each D by_x_y ≡ zeros K
    xy-zero = constants o h.of-k o o o o

  module _ {D : R → R} (h : Along (three 𝟙 𝟘 𝟘) D) where
    open h use {rules as d, of-x as dx, of-y as dy, of-z as dz, of-s as ds, of_c as dc, of-k as dk}

    x-of : each D M ≡ by_x K a s k
    x-of =
        let x = a.x in
        let y = a.y in
        let z = a.z in
        same-nine
        (own_square C d ds dc dk x dx) (plus-first C d ds dc dk x y z dx dy dz) (minus-first C d ds dc dk x z y dx dz dy)
        (minus-first C d ds dc dk x y z dx dy dz) (other-square C d ds dc dk y dy) (plus-third C d ds dc dk y z x dy dz dx)
        (plus-first C d ds dc dk x z y dx dz dy) (minus-third C d ds dc dk y z x dy dz dx) (other-square C d ds dc dk z dz)

    xx-of : each D (by_x K a s k) ≡ by_x_x
    xx-of =
        let y = single-other C d dk dy in
        let z = single-other C d dk dz in
        same-nine (double-own C d dk dx) y z y (o h) ds z (dn h) (o h)

    xy-of : each D (by_y K a s k) ≡ by_x_y
    xy-of =
        let x = single-own C d dk dx in
        let z = single-other C d dk dz in
        same-nine (o h) x (dn h) x (double-other C d dk dy) z ds z (o h)

    xz-of : each D (by_z K a s k) ≡ by_x_z
    xz-of =
        let x = single-own C d dk dx in
        let y = single-other C d dk dy in
        same-nine (o h) ds x (dn h) (o h) y x y (double-other C d dk dz)

  module _ {D : R → R} (h : Along (three 𝟘 𝟙 𝟘) D) where
    open h use {rules as d, of-x as dx, of-y as dy, of-z as dz, of-s as ds, of_c as dc, of-k as dk}

    y_of : each D M ≡ by_y K a s k
    y_of =
        let x = a.x in
        let y = a.y in
        let z = a.z in
        same-nine
        (other-square C d ds dc dk x dx) (plus-second C d ds dc dk x y z dx dy dz) (minus-third C d ds dc dk x z y dx dz dy)
        (minus-second C d ds dc dk x y z dx dy dz) (own_square C d ds dc dk y dy) (plus-first C d ds dc dk y z x dy dz dx)
        (plus-third C d ds dc dk x z y dx dz dy) (minus-first C d ds dc dk y z x dy dz dx) (other-square C d ds dc dk z dz)

    yy-of : each D (by_y K a s k) ≡ by_y_y
    yy-of =
        let x = single-other C d dk dx in
        let z = single-other C d dk dz in
        same-nine (o h) x (dn h) x (double-own C d dk dy) z ds z (o h)

    yz-of : each D (by_z K a s k) ≡ by_y_z
    yz-of =
        let x = single-other C d dk dx in
        let y = single-own C d dk dy in
        same-nine (o h) ds x (dn h) (o h) y x y (double-other C d dk dz)

  module _ {D : R → R} (h : Along (three 𝟘 𝟘 𝟙) D) where
    open h use {rules as d, of-x as dx, of-y as dy, of-z as dz, of-s as ds, of_c as dc, of-k as dk}

    z-of : each D M ≡ by_z K a s k
    z-of =
        let x = a.x in
        let y = a.y in
        let z = a.z in
        same-nine
        (other-square C d ds dc dk x dx) (plus-third C d ds dc dk x y z dx dy dz) (minus-second C d ds dc dk x z y dx dz dy)
        (minus-third C d ds dc dk x y z dx dy dz) (other-square C d ds dc dk y dy) (plus-second C d ds dc dk y z x dy dz dx)
        (plus-second C d ds dc dk x z y dx dz dy) (minus-second C d ds dc dk y z x dy dz dx) (own_square C d ds dc dk z dz)

    zz-of : each D (by_z K a s k) ≡ by_z_z
    zz-of =
        let x = single-other C d dk dx in
        let y = single-other C d dk dy in
        same-nine (o h) ds x (dn h) (o h) y x y (double-own C d dk dz)

  -- ---- all steps

  -- a matrix, its derivative, the second, and then zeros
  abbrev derivative : ℕ → (m₀ m₁ m₂ : Nine R) → Nine R
  derivative zero m₀ m₁ m₂ = m₀
  derivative (suc zero) m₀ m₁ m₂ = m₁
  derivative (suc (suc zero)) m₀ m₁ m₂ = m₂
  derivative (suc (suc (suc _))) m₀ m₁ m₂ = zeros K

  module _ {D : R → R} (d : Derivation C D) where
    in-turn : {m₀ m₁ m₂ : Nine R} → each D m₀ ≡ m₁ → each D m₁ ≡ m₂ → each D m₂ ≡ zeros K → (n : ℕ) → each (repeated n D) m₀ ≡ derivative n m₀ m₁ m₂
    in-turn e f g zero = refl
    in-turn e f g (suc zero) = e
    in-turn e f g (suc (suc zero)) = ap (each D) e ∙ f
    in-turn e f g (suc (suc (suc n))) = ap (each (repeated n D)) (ap (each D) (ap (each D) e ∙ f) ∙ g) ∙ zeros-stay C d n

  third : (i j l : ℕ) → 3 ≤ i + j + l → zeros K ≡ by_axis K i j l a s c k
  third = third-zero K a s c k

  module _ {Dx Dy Dz : R → R} (hx : Along (three 𝟙 𝟘 𝟘) Dx) (hy : Along (three 𝟘 𝟙 𝟘) Dy) (hz : Along (three 𝟘 𝟘 𝟙) Dz) where
    abbrev ox : each Dx (zeros K) ≡ zeros K
    ox = of-zeros C hx.rules

    abbrev oy : each Dy (zeros K) ≡ zeros K
    oy = of-zeros C hy.rules

    -- by x at last: three matrices in turn, each at its orders
    from : (j l : ℕ) {m₀ m₁ m₂ : Nine R} → each Dx m₀ ≡ m₁ → each Dx m₁ ≡ m₂ → each Dx m₂ ≡ zeros K →
        m₀ ≡ by_axis K 0 j l a s c k → m₁ ≡ by_axis K 1 j l a s c k → m₂ ≡ by_axis K 2 j l a s c k → (i : ℕ) → each (repeated i Dx) m₀ ≡ by_axis K i j l a s c k
    from j l {m₀} {m₁} {m₂} e f g p q r i = in-turn hx.rules e f g i ∙ go i
      where
        go : (i : ℕ) → derivative i m₀ m₁ m₂ ≡ by_axis K i j l a s c k
        go zero = p
        go (suc zero) = q
        go (suc (suc zero)) = r
        go (suc (suc (suc i))) = third (suc (suc (suc i))) j l (omega arith)

    from-zeros : (j l : ℕ) → 3 ≤ j + l → (i : ℕ) → each (repeated i Dx) (zeros K) ≡ by_axis K i j l a s c k
    from-zeros j l h i = zeros-stay C hx.rules i ∙ third i j l (omega (arith, h))

    -- not by z
    from-y : (j i : ℕ) → each (repeated i Dx) (derivative j M (by_y K a s k) by_y_y) ≡ by_axis K i j 0 a s c k
    from-y zero i = from 0 0 (x-of hx) (xx-of hx) (xx-zero hx) refl refl refl i
    from-y (suc zero) i = from 1 0 (xy-of hx) (xy-zero hx) ox refl refl refl i
    from-y (suc (suc zero)) i = from 2 0 (yy-zero hx) ox ox refl refl refl i
    from-y (suc (suc (suc j))) i = from-zeros (suc (suc (suc j))) 0 (omega arith) i

    -- once by z
    from-yz : (j i : ℕ) → each (repeated i Dx) (derivative j (by_z K a s k) by_y_z (zeros K)) ≡ by_axis K i j 1 a s c k
    from-yz zero i = from 0 1 (xz-of hx) (xz-zero hx) ox refl refl refl i
    from-yz (suc zero) i = from 1 1 (yz-zero hx) ox ox refl refl refl i
    from-yz (suc (suc zero)) i = from-zeros 2 1 (omega arith) i
    from-yz (suc (suc (suc j))) i = from-zeros (suc (suc (suc j))) 1 (omega arith) i

    -- twice by z
    from-zz : (j i : ℕ) → each (repeated i Dx) (derivative j by_z_z (zeros K) (zeros K)) ≡ by_axis K i j 2 a s c k
    from-zz zero i = from 0 2 (zz-zero hx) ox ox refl refl refl i
    from-zz (suc zero) i = from-zeros 1 2 (omega arith) i
    from-zz (suc (suc zero)) i = from-zeros 2 2 (omega arith) i
    from-zz (suc (suc (suc j))) i = from-zeros (suc (suc (suc j))) 2 (omega arith) i

    from-z : (l j i : ℕ) → each (repeated i Dx) (each (repeated j Dy) (derivative l M (by_z K a s k) by_z_z)) ≡ by_axis K i j l a s c k
    from-z zero j i = ap (each (repeated i Dx)) (in-turn hy.rules (y_of hy) (yy-of hy) (yy-zero hy) j) ∙ from-y j i
    from-z (suc zero) j i = ap (each (repeated i Dx)) (in-turn hy.rules (yz-of hy) (yz-zero hy) oy j) ∙ from-yz j i
    from-z (suc (suc zero)) j i = ap (each (repeated i Dx)) (in-turn hy.rules (zz-zero hy) oy oy j) ∙ from-zz j i
    from-z (suc (suc (suc l))) j i =
        ap (each (repeated i Dx)) (zeros-stay C hy.rules j) ∙ from-zeros j (suc (suc (suc l))) (omega arith) i

    pub by-the-axis : (i j l : ℕ) → each (repeated i Dx) (each (repeated j Dy) (each (repeated l Dz) M)) ≡ by_axis K i j l a s c k
    by-the-axis i j l = ap (λ (m : Nine R). each (repeated i Dx) (each (repeated j Dy) m)) (in-turn hz.rules (z-of hz) (zz-of hz) (zz-zero hz) l) ∙ from-z l j i
