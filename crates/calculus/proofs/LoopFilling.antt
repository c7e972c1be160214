-- A loop that stores entries in an array of w, which is blank before it: one law for every kind of number and every order of storing.
-- `has k v` says that v is the entry at the place k, and d is what the logic reads past a list's end. Assumes nothing.
use Rattle.std.proofs.Common.{◌≡◌, refl, sym, ap, ap₂, ◌∙◌, subst, Bool, true, false, cond, List, ◌∷◌, ℕ, zero, suc, ◌+◌, ◌<◌, add-zero, add-suc, suc-add, zero-add, le_of_suc-le-suc, not-suc-le-zero, arith, ltb, length, get_or, set, replicate, length-set, get_or-set_same, get_or-set_other, ext_get_or, ltb-true, ltb-false}
use native.Mathlib.Decide.{ℕ_discrete}
use lib.ListN.{length-replicate, get_or-replicate}
use Rattle.calculus.specs.Rising.{before, rising}
use Rattle.calculus.specs.Array.{listed, filled}
use Rattle.calculus.proofs.Rising.{before-below, before_above}

-- ---- what `listed` is
module _ {X : Type 0} where
  pub listed_same : (f g : ℕ → X) (i k n : ℕ) → ((x : ℕ) → x < n → f (i + x) ≡ g (k + x)) → listed f i n ≡ listed g k n
  unfolding listed
  listed_same f g i k zero h = refl
  listed_same f g i k (suc n) h =
      ap₂ ◌∷◌ (ap f (sym (add-zero i)) ∙ h 0 (omega arith) ∙ ap g (add-zero k))
      (listed_same f g (suc i) (suc k) n (λ x l. ap f (suc-add i x ∙ sym (add-suc i x)) ∙ h (suc x) (omega arith) ∙ ap g (add-suc k x ∙ sym (suc-add k x))))

module _ {X : Type 0} (d : X) where
  pub listed-length : (g : ℕ → X) (i n : ℕ) → length (listed g i n) ≡ n
  unfolding listed
  listed-length g i zero = refl
  listed-length g i (suc n) = ap suc (listed-length g (suc i) n)

  pub listed_at : (g : ℕ → X) (i n k : ℕ) → k < n → get_or (listed g i n) k d ≡ g (i + k)
  unfolding listed
  listed_at g i zero k h = absurd (not-suc-le-zero h)
  listed_at g i (suc n) zero h = ap g (sym (add-zero i))
  listed_at g i (suc n) (suc k) h = listed_at g (suc i) n k (le_of_suc-le-suc h) ∙ ap g (suc-add i k ∙ sym (add-suc i k))

module _ {X : Type 0} (w : ℕ) (d blank : X) where
  pub filled-length : (g : ℕ → X) (n : ℕ) → length (filled w blank g n) ≡ w
  filled-length g n = listed-length d (λ k. cond (ltb k n) (g k) blank) 0 w

  pub filled_at : (g : ℕ → X) (n k : ℕ) → k < w → get_or (filled w blank g n) k d ≡ cond (ltb k n) (g k) blank
  filled_at g n k h = listed_at d (λ k. cond (ltb k n) (g k) blank) 0 w k h ∙ ap (λ (j : ℕ). cond (ltb j n) (g j) blank) (zero-add k)

module _ {X : Type 0} (w : ℕ) (d blank : X) (has : ℕ → X → Type 0) where
  -- the places that are done hold their entries, and the others are blank
  pub record Stored (done : ℕ → Type 0) (r : List X) : Type 0 where
    pub long : length r ≡ w
    pub held : (k : ℕ) → k < w → done k → has k (get_or r k d)
    pub rest : (k : ℕ) → k < w → ¬ done k → get_or r k d ≡ blank

  pub stored-none : (done : ℕ → Type 0) → ((k : ℕ) → ¬ done k) → Stored done (replicate w blank)
  stored-none done h = record {
    long = length-replicate w blank;
    held = λ k l p. absurd (h k p);
    rest = λ k l p. get_or-replicate w k blank d l;
  }

  -- one more place is done
  pub stored_more : {done : ℕ → Type 0} (more : ℕ → Type 0) {r : List X} (p : ℕ) (v : X) → Stored done r → p < w → has p v →
      more p → ((k : ℕ) → done k → more k) → ((k : ℕ) → more k → ¬ (k ≡ p) → done k) → Stored more (set r p v)
  stored_more {done} more {r} p v s l e now old only = record {
    long = length-set r p v ∙ s.long;
    held = λ k b m. at k b m (ℕ_discrete k p);
    rest = λ k b n. get_or-set_other r p k v d (λ q. n (subst more (sym q) now)) ∙ s.rest k b (λ o. n (old k o));
  }
    where
      at : (k : ℕ) → k < w → more k → Dec (k ≡ p) → has k (get_or (set r p v) k d)
      at k b m (yes q) = subst (λ (x : ℕ). has x (get_or (set r p v) x d)) (sym q) (subst (has p) (sym (get_or-set_same r p v d (subst (λ (x : ℕ). p < x) (sym s.long) l))) e)
      at k b m (no q) = subst (has k) (sym (get_or-set_other r p k v d q)) (s.held k b (only k m q))

  -- the same places in other words
  pub stored-as : {done : ℕ → Type 0} (also : ℕ → Type 0) {r : List X} → Stored done r → ((k : ℕ) → k < w → also k → done k) → ((k : ℕ) → k < w → done k → also k) → Stored also r
  stored-as also s f g = record { long = s.long; held = λ k l p. s.held k l (f k l p); rest = λ k l p. s.rest k l (λ q. p (g k l q)) }

  -- the first n places are done: the array is filled
  pub stored-all : {done : ℕ → Type 0} (g : ℕ → X) → ((k : ℕ) (v : X) → has k v → v ≡ g k) → {r : List X} (n : ℕ) → Stored done r →
      ((k : ℕ) → k < w → k < n → done k) → ((k : ℕ) → k < w → done k → k < n) → r ≡ filled w blank g n
  stored-all {done} g is {r} n s f h =
      ext_get_or d r (filled w blank g n) (s.long ∙ sym (filled-length w d blank g n))
      (λ k l. at k (ltb k n) (subst (λ (x : ℕ). k < x) s.long l) refl ∙ sym (filled_at w d blank g n k (subst (λ (x : ℕ). k < x) s.long l)))
    where
      at : (k : ℕ) (t : Bool) → k < w → ltb k n ≡ t → get_or r k d ≡ cond t (g k) blank
      at k true l b = is k (get_or r k d) (s.held k l (f k l (ltb-true k n b)))
      at k false l b = s.rest k l (λ p. not-suc-le-zero {n = 0} (omega (arith, h k l p, ltb-false k n b)))

-- ---- a curve: the first m entries are done
module _ {X : Type 0} (w : ℕ) (d blank : X) (has : ℕ → X → Type 0) where
  abbrev pub CurveStored : ℕ → List X → Type 0
  CurveStored m = Stored w d blank has (λ k. k < m)

  pub curve-none : CurveStored 0 (replicate w blank)
  curve-none = stored-none w d blank has (λ k. k < 0) (λ k h. not-suc-le-zero h)

  pub curve-more : {r : List X} {m : ℕ} (v : X) → CurveStored m r → m < w → has m v → CurveStored (m + 1) (set r m v)
  curve-more {r} {m} v s l e = stored_more w d blank has (λ k. k < m + 1) m v s l e (omega arith) (λ k h. omega arith) (λ k h n. omega arith)

  pub curve-all : (g : ℕ → X) → ((k : ℕ) (v : X) → has k v → v ≡ g k) → {r : List X} (n : ℕ) {m : ℕ} → CurveStored m r → m ≡ n → r ≡ filled w blank g n
  curve-all g is n {m} s e = stored-all w d blank has g is n s (λ k l h. omega arith) (λ k l h. omega arith)

-- the entries before m, of those that rise, are what the array holds
module _ {A X : Type 0} (w : ℕ) (d blank : X) (into : X → A) (step : (ℕ → A) → ℕ → A) where
  pub curve-earlier : {r : List X} {m : ℕ} → CurveStored w d blank (λ k v. rising (into blank) step k ≡ into v) m r →
      (k : ℕ) → k < w → before (into blank) step m k ≡ into (get_or r k d)
  curve-earlier {r} {m} s k l = go (ltb k m) refl
    where
      go : (t : Bool) → ltb k m ≡ t → before (into blank) step m k ≡ into (get_or r k d)
      go true e = before-below (into blank) step m k (ltb-true k m e) ∙ s.held k l (ltb-true k m e)
      go false e =
          before_above (into blank) step m k (ltb-false k m e)
          ∙ ap into (sym (s.rest k l (λ h. not-suc-le-zero {n = 0} (omega (arith, ltb-false k m e)))))
