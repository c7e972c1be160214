-- Rodrigues' rotation about an axis by an angle, and its partial derivatives by the axis' components and by the angle, over numbers of any kind,
-- each operation in the source's order (document 01, "rot_der_n"). That they are the derivatives, where the numbers are those of a commutative
-- ring, is proved in proofs/Derivatives.antt and proofs/Polynomials.antt. Assumes nothing.
use Rattle.std.specs.Prelude.{ℕ, zero, suc, ◌%◌, Bool, ◌&&◌, cond, eqb}

-- what is asked of numbers. It says nothing of laws: floats have these operations too
pub record Arithmetic (A : Type 0) : Type 0 where
  pub zero : A
  pub one : A
  pub two : A
  pub plus : A → A → A
  pub minus : A → A → A
  pub times : A → A → A
  pub negated : A → A

-- an axis, or a matrix' column
pub record Three (A : Type 0) : Type 0 where
  pub x : A
  pub y : A
  pub z : A

-- a matrix by columns
pub record Nine (A : Type 0) : Type 0 where
  pub c0 : Three A
  pub c1 : Three A
  pub c2 : Three A

-- an angle's sine and cosine
pub record SineCosine (A : Type 0) : Type 0 where
  pub s : A
  pub c : A

abbrev pub three : {A : Type 0} → A → A → A → Three A
three x y z = record { x = x; y = y; z = z }

abbrev pub nine : {A : Type 0} → (a b c d e f g h i : A) → Nine A
nine a b c d e f g h i = record { c0 = three a b c; c1 = three d e f; c2 = three g h i }

abbrev pub sine_cosine : {A : Type 0} → A → A → SineCosine A
sine_cosine s c = record { s = s; c = c }

abbrev pub symmetric : {A : Type 0} → (xx xy xz yy yz zz : A) → Nine A
symmetric xx xy xz yy yz zz = nine xx xy xz xy yy yz xz yz zz

-- whether the orders x, y, z are p, q, r
abbrev pub same : (x y z p q r : ℕ) → Bool
same x y z p q r = eqb x p && eqb y q && eqb z r

module _ {A : Type 0} (K : Arithmetic A) where
  -- ---- sine and cosine

  -- after 0, 1, 2 and 3 quarter turns: sin (φ + π/2) = cos φ and cos (φ + π/2) = −sin φ
  abbrev pub by_quarters : ℕ → A → A → SineCosine A
  by_quarters zero s c = sine_cosine s c
  by_quarters (suc zero) s c = sine_cosine c (K.negated s)
  by_quarters (suc (suc zero)) s c = sine_cosine (K.negated s) (K.negated c)
  by_quarters (suc (suc (suc _))) s c = sine_cosine (K.negated c) s

  abbrev pub turned : ℕ → A → A → SineCosine A
  turned n s c = by_quarters (n % 4) s c

  -- ---- the rotation c·I + s·[a]× + k·a aᵀ with k = 1 − c (Rodrigues 1840)

  abbrev pub rodrigues : Three A → (s c k : A) → Nine A
  rodrigues a s c k =
      let xx = K.times (K.times k a.x) a.x in
      let xy = K.times (K.times k a.x) a.y in
      let xz = K.times (K.times k a.x) a.z in
      let yy = K.times (K.times k a.y) a.y in
      let yz = K.times (K.times k a.y) a.z in
      let zz = K.times (K.times k a.z) a.z in
      let sx = K.times s a.x in
      let sy = K.times s a.y in
      let sz = K.times s a.z in
      nine
      (K.plus xx c) (K.plus xy sz) (K.minus xz sy)
      (K.minus xy sz) (K.plus yy c) (K.plus yz sx)
      (K.plus xz sy) (K.minus yz sx) (K.plus zz c)

  -- by one component of the axis
  abbrev pub by_x : Three A → (s k : A) → Nine A
  by_x a s k =
      let y = K.times a.y k in
      let z = K.times a.z k in
      nine (K.times (K.times K.two a.x) k) y z y K.zero s z (K.negated s) K.zero

  abbrev pub by_y : Three A → (s k : A) → Nine A
  by_y a s k =
      let x = K.times a.x k in
      let z = K.times a.z k in
      nine K.zero x (K.negated s) x (K.times (K.times K.two a.y) k) z s z K.zero

  abbrev pub by_z : Three A → (s k : A) → Nine A
  by_z a s k =
      let x = K.times a.x k in
      let y = K.times a.y k in
      nine K.zero s x (K.negated s) K.zero y x y (K.times (K.times K.two a.z) k)

  -- by two components entries of k·a aᵀ are left, and by three nothing
  abbrev pub zeros : Nine A
  zeros = let o = K.zero in symmetric o o o o o o

  -- x, y and z times by the axis' components
  abbrev pub by_axis : (x y z : ℕ) → Three A → (s c k : A) → Nine A
  by_axis x y z a s c k =
      let o = K.zero in
      let double = K.times K.two k in
      cond (same x y z 0 0 0) (rodrigues a s c k)
      (cond (same x y z 1 0 0) (by_x a s k)
      (cond (same x y z 0 1 0) (by_y a s k)
      (cond (same x y z 0 0 1) (by_z a s k)
      (cond (same x y z 2 0 0) (symmetric double o o o o o)
      (cond (same x y z 0 2 0) (symmetric o o o double o o)
      (cond (same x y z 0 0 2) (symmetric o o o o o double)
      (cond (same x y z 0 1 1) (symmetric o o o o k o)
      (cond (same x y z 1 0 1) (symmetric o o k o o o)
      (cond (same x y z 1 1 0) (symmetric o k o o o o)
      zeros)))))))))

  -- the derivative of order n of 1
  abbrev pub constant : ℕ → A
  constant zero = K.one
  constant (suc _) = K.zero

  -- x, y and z times by the axis' components and n times by the angle, whose sine and cosine are s and c; k is −c + 1, derived −c + 0
  abbrev pub rotation : (x y z n : ℕ) → Three A → (s c : A) → Nine A
  rotation x y z n a s c =
      let p = turned n s c in
      by_axis x y z a p.s p.c (K.plus (K.negated p.c) (constant n))
