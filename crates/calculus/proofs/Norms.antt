-- Norms keep a relation that the operations of two kinds of scalar keep, with roots and scalar products that keep it: as far as the jets are related.
-- Assumes nothing.
use Rattle.std.proofs.Common.{◌≡◌, refl, subst, Bool, true, false, cond, ◌&&◌, ℕ, zero, suc, ◌+◌, ◌-◌, ◌*◌, ◌≤◌, zero-le, arith, eqb}
use Rattle.calculus.specs.Kind.{Kind, regular}
use Rattle.calculus.specs.Choose.{choose}
use Rattle.calculus.specs.Surface.{leibniz}
use Rattle.calculus.proofs.Related.{Related, regulars, CurvesAlike, SurfacesAlike, in_turn-alike, in_rows-alike}
use Rattle.calculus.proofs.Alike.{surface-product_by-alike}
use Rattle.calculus.specs.Norm.{norm_term, norm_entry, norm, at_end, others, surface_norm_entry, surface_norm}
use Rattle.calculus.proofs.Quotients.{all_alike, all-rows-alike}

module _ {S T A B : Type 0} (P : S → T → Type 0) (R : A → B → Type 0) (K : Kind S) (L : Kind T) (r : Related P K L)
    (root : S → S) (radix : T → T) (roots : (s : S) (t : T) → P s t → P (root s) (radix t))
    (dot : A → A → S) (inner : B → B → T) (dots : (a c : A) (b d : B) → R a b → R c d → P (dot a c) (inner b d)) (n : ℕ) where
  either : (b : Bool) {x u : S} {y v : T} → P x y → P u v → P (cond b x u) (cond b y v)
  either true p q = p
  either false p q = q

  module _ (s : ℕ → A) (t : ℕ → B) (p : CurvesAlike R n s t) where
    pub norm_entry-alike : (m : ℕ) → m ≤ n → (f : ℕ → S) (g : ℕ → T) → ((i : ℕ) → i ≤ n → P (f i) (g i)) → P (norm_entry K root dot s f m) (norm_entry L radix inner t g m)
    norm_entry-alike zero l f g h = roots _ _ (dots _ _ _ _ (p 0 zero-le) (p 0 zero-le))
    norm_entry-alike (suc m) l f g h =
        r.over _ _ _ _
        (in_turn-alike P P K.plus L.plus (λ a c b d. r.plus a c b d) (norm_term K root dot s f m) (norm_term L radix inner t g m) (suc m) r.zero
        (λ i k. r.times _ _ _ _
        (r.minus _ _ _ _ (dots _ _ _ _ (p (suc i) (omega arith)) (p (m - i) (omega arith))) (r.times _ _ _ _ (h (suc i) (omega arith)) (h (m - i) (omega arith))))
        (r.of_nat (choose m i))))
        (h 0 zero-le)

    pub norm-alike : CurvesAlike P n (norm K root dot s) (norm L radix inner t)
    norm-alike = all_alike P K.zero L.zero r.zero (norm_entry K root dot s) (norm_entry L radix inner t) n norm_entry-alike

  -- the same place, which is one of those up to [m][k]
  abbrev Place : ℕ → ℕ → ℕ × ℕ → ℕ × ℕ → Type 0
  Place m k c d = (c ≡ d) × (c.0 ≤ m) × (c.1 ≤ k)

  module _ (s : ℕ → ℕ → A) (t : ℕ → ℕ → B) (p : SurfacesAlike R n s t) where
    others-alike : (m k : ℕ) → m + k ≤ n → (f : ℕ → ℕ → S) (g : ℕ → ℕ → T) → SurfacesAlike P n f g → P (others K root dot f m k) (others L radix inner g m k)
    others-alike m k l f g h =
        in_rows-alike P (Place m k)
        (λ sum q. cond (at_end m k q) sum (K.plus sum (leibniz (regular K) K.times f f m k q.0 q.1)))
        (λ sum q. cond (at_end m k q) sum (L.plus sum (leibniz (regular L) L.times g g m k q.0 q.1)))
        keep (λ i j. (i, j)) (λ i j. (i, j)) (suc m) (suc k) r.zero (λ i j a b. (refl, omega arith, omega arith))
      where
        term : (i j : ℕ) → i ≤ m → j ≤ k → P (leibniz (regular K) K.times f f m k i j) (leibniz (regular L) L.times g g m k i j)
        term i j a b = r.times _ _ _ _ (r.times _ _ _ _ (h i j (omega arith)) (h (m - i) (k - j) (omega arith))) (r.of_nat (choose m i * choose k j))

        keep : (x : S) (c : ℕ × ℕ) (y : T) (d : ℕ × ℕ) → P x y → Place m k c d →
            P (cond (at_end m k c) x (K.plus x (leibniz (regular K) K.times f f m k c.0 c.1)))
            (cond (at_end m k d) y (L.plus y (leibniz (regular L) L.times g g m k d.0 d.1)))
        keep x c y d e q =
            subst (λ (z : ℕ × ℕ). P (cond (at_end m k c) x (K.plus x (leibniz (regular K) K.times f f m k c.0 c.1)))
            (cond (at_end m k z) y (L.plus y (leibniz (regular L) L.times g g m k z.0 z.1)))) q.0
            (either (at_end m k c) e (r.plus _ _ _ _ e (term c.0 c.1 q.1 q.2)))

    pub surface_norm_entry-alike : (m k : ℕ) → m + k ≤ n → (f : ℕ → ℕ → S) (g : ℕ → ℕ → T) → SurfacesAlike P n f g →
        P (surface_norm_entry K root dot s f m k) (surface_norm_entry L radix inner t g m k)
    surface_norm_entry-alike m k l f g h =
        either (eqb m 0 && eqb k 0) (roots _ _ (dots _ _ _ _ (p 0 0 zero-le) (p 0 0 zero-le)))
        (r.over _ _ _ _
        (r.minus _ _ _ _ (surface-product_by-alike P P (regular K) (regular L) (regulars r) n R R dot inner dots s s t t p p m k l) (others-alike m k l f g h))
        (r.plus _ _ _ _ (h 0 0 zero-le) (h 0 0 zero-le)))

    pub surface_norm-alike : SurfacesAlike P n (surface_norm K root dot s) (surface_norm L radix inner t)
    surface_norm-alike =
        all-rows-alike P K.zero L.zero r.zero (surface_norm_entry K root dot s) (surface_norm_entry L radix inner t) n surface_norm_entry-alike
