-- The matrices of specs/Rodrigues.antt are the partial derivatives of Rodrigues' formula c·I + s·[a]× + (1 − c)·a aᵀ.
--
-- Numbers here are those of any commutative ring with four derivations: by the axis' components x, y, z, and by the angle. A derivation keeps sums
-- and has Leibniz's product rule (proofs/Derivation.antt); of the elements x, y, z, s, c the four know the derivatives that the table `derived`
-- has: each component's own is 1, s' = c and c' = −s by the angle, and all others are 0. Then `derivatives` says, for all orders: every entry of
-- the formula, derived n times by the angle, then k, j and i times by z, y and x, is that of the matrix `rotation i j k n`. So it is zero where
-- i + j + k is 3 or more (`third-derivatives`); and quarter turns of s and c are their derivatives by the angle (`turned-is`).
-- proofs/Polynomials.antt has such a ring: polynomials with their formal derivatives. Assumes nothing.
use Rattle.std.proofs.Common.{ℕ, ◌+◌, ◌%◌, ◌≤◌, ◌≡◌, sym, ◌∙◌, ap}
use mathlib.Mathlib.Algebra.Ring.Defs.{CommRing}
use Rattle.rodrigues.specs.Rodrigues.{Arithmetic, Three, Nine, three, nine, symmetric, sine_cosine, turned, rodrigues, zeros, constant, rotation}
use Rattle.rodrigues.proofs.Orders.{third-zero}
use Rattle.rodrigues.proofs.Ring.{laws}
use Rattle.rodrigues.proofs.Derivation.{ring, Derivation, each, repeated, same-nine}
use Rattle.rodrigues.proofs.ByAngle.{quarter-turns, repeated-one, by-the-angle, constant-sine, constant-cosine, constant-k}
use Rattle.rodrigues.proofs.ByAxis.{Along, by-the-axis}

-- ---- Rodrigues' formula, as it is written
module _ {A : Type 0} (K : Arithmetic A) where
  abbrev pub identity : Nine A
  identity = symmetric K.one K.zero K.zero K.one K.zero K.one

  -- [a]×, by columns
  abbrev pub cross : Three A → Nine A
  cross a = nine K.zero a.z (K.negated a.y) (K.negated a.z) K.zero a.x a.y (K.negated a.x) K.zero

  -- a aᵀ
  abbrev pub outer : Three A → Nine A
  outer a =
      symmetric (K.times a.x a.x) (K.times a.x a.y) (K.times a.x a.z)
      (K.times a.y a.y) (K.times a.y a.z) (K.times a.z a.z)

  abbrev pub sum : Nine A → Nine A → Nine A
  sum m n =
      nine (K.plus m.c0.x n.c0.x) (K.plus m.c0.y n.c0.y) (K.plus m.c0.z n.c0.z)
      (K.plus m.c1.x n.c1.x) (K.plus m.c1.y n.c1.y) (K.plus m.c1.z n.c1.z)
      (K.plus m.c2.x n.c2.x) (K.plus m.c2.y n.c2.y) (K.plus m.c2.z n.c2.z)

  abbrev pub formula : Three A → (s c : A) → Nine A
  formula a s c = sum (sum (each (K.times c) identity) (each (K.times s) (cross a))) (each (K.times (K.minus K.one c)) (outer a))

-- ---- what is derived, and by what

-- the axis' components, and the angle's sine and cosine
pub data Variable : Type 0 where
  X Y Z Sine Cosine : Variable

-- the axis' components, and the angle
pub data Direction : Type 0 where
  by-x by-y by-z by-angle : Direction

abbrev pub values : {A : Type 0} → (x y z s c : A) → Variable → A
values x y z s c X = x
values x y z s c Y = y
values x y z s c Z = z
values x y z s c Sine = s
values x y z s c Cosine = c

-- the derivatives of the variables, whose own values are v
abbrev pub derived : {A : Type 0} → Arithmetic A → (Variable → A) → Direction → Variable → A
derived K v by-x = values K.one K.zero K.zero K.zero K.zero
derived K v by-y = values K.zero K.one K.zero K.zero K.zero
derived K v by-z = values K.zero K.zero K.one K.zero K.zero
derived K v by-angle = values K.zero K.zero K.zero (v Cosine) (K.negated (v Sine))

pub record Derives {R : Type 0} (C : CommRing R) (D : Direction → R → R) (v : Variable → R) : Type 0 where
  pub rules : (d : Direction) → Derivation C (D d)
  pub variables : (d : Direction) (q : Variable) → D d (v q) ≡ derived (ring C) v d q

-- n times by the angle, then k, j and i times by z, y and x
abbrev pub partial : {R : Type 0} → (Direction → R → R) → (i j k n : ℕ) → R → R
partial D i j k n e = repeated i (D by-x) (repeated j (D by-y) (repeated k (D by-z) (repeated n (D by-angle) e)))

abbrev pub axis : {A : Type 0} → (Variable → A) → Three A
axis v = three (v X) (v Y) (v Z)

-- ---- in a ring the definition is the formula
module _ {R : Type 0} (C : CommRing R) where
  infixl 6 ◌⊕◌
  infixl 7 ◌⊗◌
  open C use {add as ◌⊕◌, mul as ◌⊗◌, zero as 𝟘, neg as neg, one as 𝟙}

  abbrev K : Arithmetic R
  K = ring C

  square-is : (s c p : R) → c ⊗ 𝟙 ⊕ s ⊗ 𝟘 ⊕ (𝟙 ⊕ neg c) ⊗ (p ⊗ p) ≡ (neg c ⊕ 𝟙) ⊗ p ⊗ p ⊕ c
  square-is s c p = simp laws

  plus-is : (s c p q r : R) → c ⊗ 𝟘 ⊕ s ⊗ r ⊕ (𝟙 ⊕ neg c) ⊗ (p ⊗ q) ≡ (neg c ⊕ 𝟙) ⊗ p ⊗ q ⊕ s ⊗ r
  plus-is s c p q r = simp laws

  minus_is : (s c p q r : R) → c ⊗ 𝟘 ⊕ s ⊗ neg r ⊕ (𝟙 ⊕ neg c) ⊗ (p ⊗ q) ≡ (neg c ⊕ 𝟙) ⊗ p ⊗ q ⊕ neg (s ⊗ r)
  minus_is s c p q r = simp laws

  pub formula-is : (a : Three R) (s c : R) → formula K a s c ≡ rodrigues K a s c (neg c ⊕ 𝟙)
  formula-is a s c =
      let x = a.x in
      let y = a.y in
      let z = a.z in
      same-nine
      (square-is s c x) (plus-is s c x y z) (minus_is s c x z y)
      (minus_is s c x y z) (square-is s c y) (plus-is s c y z x)
      (plus-is s c x z y) (minus_is s c y z x) (square-is s c z)

  module _ {D : Direction → R → R} {v : Variable → R} (h : Derives C D v) where
    -- what is derived by the angle alone, along the axis
    along : (n : ℕ) (d : Direction) (t : Three R) → D d (v X) ≡ t.x → D d (v Y) ≡ t.y → D d (v Z) ≡ t.z → D d (v Sine) ≡ 𝟘 → D d (v Cosine) ≡ 𝟘 →
        Along C (axis v) (turned K n (v Sine) (v Cosine)).s (turned K n (v Sine) (v Cosine)).c (neg (turned K n (v Sine) (v Cosine)).c ⊕ constant K n) t (D d)
    along n d t dx dy dz ds dc = record {
      rules = h.rules d;
      of-x = dx;
      of-y = dy;
      of-z = dz;
      of-s = constant-sine C (h.rules d) ds dc (n % 4);
      of_c = constant-cosine C (h.rules d) ds dc (n % 4);
      of-k = constant-k C (h.rules d) ds dc n;
    }

    pub derivatives : (i j k n : ℕ) → each (partial D i j k n) (formula K (axis v) (v Sine) (v Cosine)) ≡ rotation K i j k n (axis v) (v Sine) (v Cosine)
    derivatives i j k n =
        let p = turned K n (v Sine) (v Cosine) in
        let w = h.variables in
        ap (each (partial D i j k n)) (formula-is (axis v) (v Sine) (v Cosine))
        ∙ ap (λ (m : Nine R). each (repeated i (D by-x)) (each (repeated j (D by-y)) (each (repeated k (D by-z)) m)))
        (by-the-angle C (h.rules by-angle) (axis v) (w by-angle X) (w by-angle Y) (w by-angle Z) n (w by-angle Sine) (w by-angle Cosine))
        ∙ by-the-axis C (axis v) p.s p.c (neg p.c ⊕ constant K n)
        (along n by-x (three 𝟙 𝟘 𝟘) (w by-x X) (w by-x Y) (w by-x Z) (w by-x Sine) (w by-x Cosine))
        (along n by-y (three 𝟘 𝟙 𝟘) (w by-y X) (w by-y Y) (w by-y Z) (w by-y Sine) (w by-y Cosine))
        (along n by-z (three 𝟘 𝟘 𝟙) (w by-z X) (w by-z Y) (w by-z Z) (w by-z Sine) (w by-z Cosine))
        i j k

    -- in particular
    pub third-derivatives : (i j k n : ℕ) → 3 ≤ i + j + k → each (partial D i j k n) (formula K (axis v) (v Sine) (v Cosine)) ≡ zeros K
    third-derivatives i j k n l =
        let p = turned K n (v Sine) (v Cosine) in
        derivatives i j k n ∙ sym (third-zero K (axis v) p.s p.c (neg p.c ⊕ constant K n) i j k l)

    pub turned-is : (n : ℕ) → sine_cosine (repeated n (D by-angle) (v Sine)) (repeated n (D by-angle) (v Cosine)) ≡ turned K n (v Sine) (v Cosine)
    turned-is n = quarter-turns C (h.rules by-angle) n (h.variables by-angle Sine) (h.variables by-angle Cosine)

    pub constant-is : (n : ℕ) → repeated n (D by-angle) 𝟙 ≡ constant K n
    constant-is = repeated-one C (h.rules by-angle)
