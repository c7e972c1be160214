-- Quotients keep a relation that the operations of two kinds of scalar and of entry keep: as far as the jets are related. Assumes nothing.
use Rattle.std.proofs.Common.{subst, Bool, true, false, cond, ℕ, zero, suc, ◌+◌, ◌-◌, ◌≤◌, zero-le, arith}
use Rattle.calculus.specs.Kind.{Module}
use Rattle.calculus.specs.Choose.{choose}
use Rattle.calculus.specs.Rising.{before, rising, with_row, rising_row, before_entry, rising_rows}
use Rattle.partitions.proofs.Tests.{by_eqb}
use Rattle.calculus.proofs.Related.{RelatedModules, CurvesAlike, SurfacesAlike, in_turn-alike, in_rows-alike}
use Rattle.calculus.specs.Rational.{rational_term, rational_entry, rational, surface_rational_term, surface_rational_entry, surface_rational}

-- ---- entries that rise, where a step may read the entry that it forms, which is blank until then
module _ {X Y : Type 0} (R : X → Y → Type 0) (bx : X) (by : Y) (blank : R bx by) where
  either : (b : Bool) {x u : X} {y v : Y} → R x y → R u v → R (cond b x u) (cond b y v)
  either true p q = p
  either false p q = q

  module _ (s : (ℕ → X) → ℕ → X) (t : (ℕ → Y) → ℕ → Y) (n : ℕ)
      (h : (m : ℕ) → m ≤ n → (f : ℕ → X) (g : ℕ → Y) → ((i : ℕ) → i ≤ n → R (f i) (g i)) → R (s f m) (t g m)) where
    pub before-alike : (k j : ℕ) → j ≤ n → R (before bx s k j) (before by t k j)
    unfolding before
    before-alike zero j l = blank
    before-alike (suc k) j l =
        by_eqb j k (λ b. R (cond b (s (before bx s k) k) (before bx s k j)) (cond b (t (before by t k) k) (before by t k j)))
        (λ e. h k (omega arith) (before bx s k) (before by t k) (λ i c. before-alike k i c)) (λ e. before-alike k j l)

    pub all_alike : CurvesAlike R n (rising bx s) (rising by t)
    all_alike m l = h m l (before bx s m) (before by t m) (λ i c. before-alike m i c)

  module _ (s : (ℕ → ℕ → X) → ℕ → ℕ → X) (t : (ℕ → ℕ → Y) → ℕ → ℕ → Y) (n : ℕ)
      (h : (i j : ℕ) → i + j ≤ n → (f : ℕ → ℕ → X) (g : ℕ → ℕ → Y) → SurfacesAlike R n f g → R (s f i j) (t g i j)) where
    with-alike : {f : ℕ → ℕ → X} {g : ℕ → ℕ → Y} {p : ℕ → X} {q : ℕ → Y} (m : ℕ) → SurfacesAlike R n f g → ((j : ℕ) → m + j ≤ n → R (p j) (q j)) →
        SurfacesAlike R n (with_row f m p) (with_row g m q)
    with-alike {f} {g} {p} {q} m r e i j l =
        by_eqb i m (λ b. R (cond b (p j) (f i j)) (cond b (q j) (g i j))) (λ w. e j (subst (λ (x : ℕ). x + j ≤ n) w l)) (λ w. r i j l)

    row-alike : {f : ℕ → ℕ → X} {g : ℕ → ℕ → Y} (m : ℕ) → SurfacesAlike R n f g → (k j : ℕ) → m + j ≤ n →
        R (before bx (λ q a. s (with_row f m q) m a) k j) (before by (λ q a. t (with_row g m q) m a) k j)
    unfolding before
    row-alike m r zero j l = blank
    row-alike {f} {g} m r (suc k) j l =
        let x = before bx (λ q a. s (with_row f m q) m a) k in
        let y = before by (λ q a. t (with_row g m q) m a) k in
        by_eqb j k (λ b. R (cond b (s (with_row f m x) m k) (x j)) (cond b (t (with_row g m y) m k) (y j)))
        (λ e. h m k (subst (λ (z : ℕ). m + z ≤ n) e l) (with_row f m x) (with_row g m y) (with-alike m r (λ a c. row-alike m r k a c))) (λ e. row-alike m r k j l)

    rows_alike : (k : ℕ) → SurfacesAlike R n (before (λ j. bx) (rising_row bx s) k) (before (λ j. by) (rising_row by t) k)
    unfolding before
    rows_alike zero i j l = blank
    rows_alike (suc k) i j l =
        let x = before (λ j. bx) (rising_row bx s) k in
        let y = before (λ j. by) (rising_row by t) k in
        by_eqb i k (λ b. R (cond b (rising_row bx s x k) (x i) j) (cond b (rising_row by t y k) (y i) j))
        (λ e. let b : k + j ≤ n = subst (λ (z : ℕ). z + j ≤ n) e l in
        h k j b (with_row x k (before bx (λ q a. s (with_row x k q) k a) j)) (with_row y k (before by (λ q a. t (with_row y k q) k a) j))
        (with-alike k (rows_alike k) (λ a c. row-alike k (rows_alike k) j a c)))
        (λ e. rows_alike k i j l)

    pub all-rows-alike : SurfacesAlike R n (rising_rows bx s) (rising_rows by t)
    all-rows-alike i j l =
        h i j l (before_entry bx s i j) (before_entry by t i j) (with-alike i (rows_alike i) (λ a c. row-alike i (rows_alike i) j a c))

-- ---- the quotients, where over and under divide entries by scalars, and keep the relations
module _ {S T A B : Type 0} (P : S → T → Type 0) (R : A → B → Type 0) (M : Module S A) (N : Module T B) (r : RelatedModules P R M N)
    (over : A → S → A) (under : B → T → B) (divide : (a : A) (s : S) (b : B) (t : T) → R a b → P s t → R (over a s) (under b t)) (n : ℕ) where
  module _ (x : ℕ → A) (y : ℕ → B) (w : ℕ → S) (v : ℕ → T) (p : CurvesAlike R n x y) (q : CurvesAlike P n w v) where
    pub rational_entry-alike : (m : ℕ) → m ≤ n → (f : ℕ → A) (g : ℕ → B) → ((i : ℕ) → i ≤ m → R (f i) (g i)) → R (rational_entry M over x w f m) (rational_entry N under y v g m)
    rational_entry-alike m l f g h =
        divide _ _ _ _
        (r.minus _ _ _ _ (p m l)
        (in_turn-alike R R M.plus N.plus (λ a c b d. r.plus a c b d) (λ i. rational_term M over w f m (suc i)) (λ i. rational_term N under v g m (suc i)) (m - 1)
        (r.scale _ _ _ _ (h 0 zero-le) (q m l))
        (λ i k. r.scale _ _ _ _ (h (suc i) (omega arith)) (r.times _ _ _ _ (q (m - suc i) (omega arith)) (r.of_nat (choose m (suc i)))))))
        (q 0 zero-le)

    pub rational-alike : CurvesAlike R n (rational M over x w) (rational N under y v)
    rational-alike =
        all_alike R M.zero N.zero r.zero (rational_entry M over x w) (rational_entry N under y v) n
        (λ m l f g h. rational_entry-alike m l f g (λ i k. h i (omega arith)))

  module _ (x : ℕ → ℕ → A) (y : ℕ → ℕ → B) (w : ℕ → ℕ → S) (v : ℕ → ℕ → T) (p : SurfacesAlike R n x y) (q : SurfacesAlike P n w v) where
    pub surface_rational_entry-alike : (m k : ℕ) → m + k ≤ n → (f : ℕ → ℕ → A) (g : ℕ → ℕ → B) → ((i j : ℕ) → i ≤ m → j ≤ k → R (f i j) (g i j)) →
        R (surface_rational_entry M over x w f m k) (surface_rational_entry N under y v g m k)
    surface_rational_entry-alike m k l f g h =
        divide _ _ _ _
        (r.minus _ _ _ _ (p m k l)
        (in_rows-alike R R M.plus N.plus (λ a c b d. r.plus a c b d) (surface_rational_term M over w f m k) (surface_rational_term N under v g m k) (suc m) (suc k)
        r.zero
        (λ i j a b. r.scale _ _ _ _ (h i j (omega arith) (omega arith))
        (r.times _ _ _ _ (r.times _ _ _ _ (q (m - i) (k - j) (omega arith)) (r.of_nat (choose m i))) (r.of_nat (choose k j))))))
        (q 0 0 zero-le)

    pub surface_rational-alike : SurfacesAlike R n (surface_rational M over x w) (surface_rational N under y v)
    surface_rational-alike =
        all-rows-alike R M.zero N.zero r.zero (surface_rational_entry M over x w) (surface_rational_entry N under y v) n
        (λ i j l f g h. surface_rational_entry-alike i j l f g (λ a b c d. h a b (omega arith)))
