-- Sums over the nonincreasing lists of k parts from 1 to m; taking one part out of a list; and the two together.
-- Assumes nothing.
use Rattle.std.proofs.Common.{◌≡◌, refl, sym, ◌∙◌, ap, ap₂, cond, List, [], ◌∷◌, ◌++◌, map, ℕ, zero, suc, ◌+◌, ◌-◌, ◌≤◌, ◌<◌, arith, leb, eqb, length, ℤ, pos, eq-eqb, ne_eqb}
use mathlib.Core.Path.{fun_ext}
use Rattle.calculus.proofs.Ints.{◌⊕◌, ◌⊗◌, over}
use Rattle.partitions.specs.Parts.{total, parts}
use Rattle.partitions.proofs.Down.{Down, none, one, wider, long}
use Rattle.calculus.proofs.Ring.{middle, zeros, mul-add, zero-add, add-zero, add_assoc}
use Rattle.calculus.proofs.Sums.{Linear, at_zero}
use Rattle.partitions.proofs.Tests.{by-leb, by_eqb, eqb-iff}

-- the sum of f over the nonincreasing lists of k parts from 1 to m
unfoldable pub desc : ℕ → ℕ → (List ℕ → ℤ) → ℤ
desc zero m f = f []
desc (suc k) zero f = pos 0
desc (suc k) (suc m) f = desc k (suc m) (λ l. f (suc m ∷ l)) ⊕ desc (suc k) m f

-- f at the list without its first v; 0 where v is no part
unfoldable pub without : ℕ → List ℕ → (List ℕ → ℤ) → ℤ
without v [] f = pos 0
without v (a ∷ l) f = cond (eqb a v) (f l) (without v l (λ r. f (a ∷ r)))

-- both are linear
desc-plus : (k m : ℕ) (f g : List ℕ → ℤ) → desc k m (λ l. f l ⊕ g l) ≡ desc k m f ⊕ desc k m g
unfolding desc
desc-plus zero m f g = refl
desc-plus (suc k) zero f g = simp zeros
desc-plus (suc k) (suc m) f g = ap₂ (λ x y. x ⊕ y) (desc-plus k (suc m) (λ l. f (suc m ∷ l)) (λ l. g (suc m ∷ l))) (desc-plus (suc k) m f g) ∙ middle _ _ _ _

desc-times : (k m : ℕ) (c : ℤ) (f : List ℕ → ℤ) → desc k m (λ l. c ⊗ f l) ≡ c ⊗ desc k m f
unfolding desc
desc-times zero m c f = refl
desc-times (suc k) zero c f = simp zeros
desc-times (suc k) (suc m) c f = ap₂ (λ x y. x ⊕ y) (desc-times k (suc m) c (λ l. f (suc m ∷ l))) (desc-times (suc k) m c f) ∙ sym (mul-add c _ _)

pub desc-linear : (k m : ℕ) → Linear (desc k m)
desc-linear k m = record { plus = desc-plus k m; times = desc-times k m }

without-plus : (v : ℕ) (l : List ℕ) (f g : List ℕ → ℤ) → without v l (λ r. f r ⊕ g r) ≡ without v l f ⊕ without v l g
unfolding without
without-plus v [] f g = simp zeros
without-plus v (a ∷ l) f g =
    by_eqb a v (λ b. cond b (f l ⊕ g l) (without v l (λ r. f (a ∷ r) ⊕ g (a ∷ r))) ≡ cond b (f l) (without v l (λ r. f (a ∷ r))) ⊕ cond b (g l) (without v l (λ r. g (a ∷ r))))
    (λ e. refl) (λ n. without-plus v l (λ r. f (a ∷ r)) (λ r. g (a ∷ r)))

without-times : (v : ℕ) (l : List ℕ) (c : ℤ) (f : List ℕ → ℤ) → without v l (λ r. c ⊗ f r) ≡ c ⊗ without v l f
unfolding without
without-times v [] c f = simp zeros
without-times v (a ∷ l) c f =
    by_eqb a v (λ b. cond b (c ⊗ f l) (without v l (λ r. c ⊗ f (a ∷ r))) ≡ c ⊗ cond b (f l) (without v l (λ r. f (a ∷ r))))
    (λ e. refl) (λ n. without-times v l c (λ r. f (a ∷ r)))

pub without-linear : (v : ℕ) (l : List ℕ) → Linear (without v l)
without-linear v l = record { plus = without-plus v l; times = without-times v l }

-- taking the part w + 1 out of each list of k + 1 parts leaves each list of k parts once
no-large : (k m w : ℕ) (f : List ℕ → ℤ) → m ≤ w → desc k m (λ l. without (suc w) l f) ≡ pos 0
unfolding desc without
no-large zero m w f h = refl
no-large (suc k) zero w f h = refl
no-large (suc k) (suc m) w f h =
    ap₂ (λ x y. x ⊕ y)
    (ap (desc k (suc m)) (fun_ext (λ l. ap (λ b. cond b (f l) (without (suc w) l (λ r. f (suc m ∷ r)))) (ne_eqb (suc m) (suc w) (λ e. omega arith))))
    ∙ no-large k (suc m) w (λ r. f (suc m ∷ r)) h)
    (no-large (suc k) m w f (omega arith))
    ∙ zero-add (pos 0)

pub reindex : (k m w : ℕ) (f : List ℕ → ℤ) → w < m → desc (suc k) m (λ l. without (suc w) l f) ≡ desc k m f
unfolding desc without
reindex k zero w f h = absurd (omega arith)
reindex zero (suc m) w f h =
    by_eqb (suc m) (suc w) (λ b. cond b (f []) (pos 0) ⊕ desc 1 m (λ l. without (suc w) l f) ≡ f [])
    (λ e. ap (λ x. f [] ⊕ x) (no-large 1 m w f (omega arith)) ∙ add-zero (f []))
    (λ n. zero-add _ ∙ reindex zero m w f (omega arith))
reindex (suc k) (suc m) w f h =
    by_eqb (suc m) (suc w)
    (λ b. desc (suc k) (suc m) (λ l. cond b (f l) (without (suc w) l (λ r. f (suc m ∷ r)))) ⊕ desc (suc (suc k)) m (λ l. without (suc w) l f) ≡ desc (suc k) (suc m) f)
    (λ e. ap (λ x. desc (suc k) (suc m) f ⊕ x) (no-large (suc (suc k)) m w f (omega arith)) ∙ add-zero _)
    (λ n. ap₂ (λ x y. x ⊕ y) (reindex k (suc m) w (λ r. f (suc m ∷ r)) h) (reindex (suc k) m w f (omega arith)))

over-append : (xs ys : List (List ℕ)) (f : List ℕ → ℤ) → over (xs ++ ys) f ≡ over xs f ⊕ over ys f
unfolding over
over-append [] ys f = sym (zero-add _)
over-append (x ∷ xs) ys f = ap (λ y. f x ⊕ y) (over-append xs ys f) ∙ sym (add_assoc _ _ _)

over-map : (g : List ℕ → List ℕ) (xs : List (List ℕ)) (f : List ℕ → ℤ) → over (map g xs) f ≡ over xs (λ l. f (g l))
unfolding over
over-map g [] f = refl
over-map g (x ∷ xs) f = ap (λ y. f (g x) ⊕ y) (over-map g xs f)

-- f where the sum is n, 0 elsewhere
abbrev pub of-total : ℕ → (List ℕ → ℤ) → List ℕ → ℤ
of-total n f l = cond (eqb (total l) n) (f l) (pos 0)

-- the lists of parts are those of `desc` with the sum n
pub over-parts : (k m n : ℕ) (f : List ℕ → ℤ) → over (parts k m n) f ≡ desc k m (of-total n f)
unfolding over desc parts total
over-parts zero m n f =
    by_eqb n 0 (λ b. over (cond b ([] ∷ []) []) f ≡ of-total n f [])
    (λ e. add-zero (f []) ∙ ap (λ b. cond b (f []) (pos 0)) (sym (eq-eqb 0 n (sym e))))
    (λ ne. ap (λ b. cond b (f []) (pos 0)) (sym (ne_eqb 0 n (λ e. ne (sym e)))))
over-parts (suc k) zero n f = refl
over-parts (suc k) (suc m) n f =
    over-append (cond (leb (suc m) n) (map (λ l. suc m ∷ l) (parts k (suc m) (n - suc m))) []) (parts (suc k) m n) f
    ∙ ap₂ (λ x y. x ⊕ y)
    (by-leb (suc m) n (λ b. over (cond b (map (λ l. suc m ∷ l) (parts k (suc m) (n - suc m))) []) f ≡ desc k (suc m) (λ l. of-total n f (suc m ∷ l)))
    (λ h. over-map (λ l. suc m ∷ l) (parts k (suc m) (n - suc m)) f
    ∙ over-parts k (suc m) (n - suc m) (λ l. f (suc m ∷ l))
    ∙ ap (desc k (suc m)) (fun_ext (λ l. ap (λ b. cond b (f (suc m ∷ l)) (pos 0)) (same l h))))
    (λ h. sym (at_zero (desc k (suc m)) (desc-linear k (suc m)))
    ∙ ap (desc k (suc m)) (fun_ext (λ l. ap (λ b. cond b (f (suc m ∷ l)) (pos 0)) (sym (ne_eqb (suc m + total l) n (λ e. omega arith)))))))
    (over-parts (suc k) m n f)
  where
    same : (l : List ℕ) → suc m ≤ n → eqb (total l) (n - suc m) ≡ eqb (suc m + total l) n
    same l h = eqb-iff (total l) (n - suc m) (suc m + total l) n (λ e. omega arith) (λ e. omega arith)

pub desc-cong : (k m : ℕ) {f g : List ℕ → ℤ} → ((l : List ℕ) → Down m l → length l ≡ k → f l ≡ g l) → desc k m f ≡ desc k m g
unfolding desc
desc-cong zero m h = h [] none refl
desc-cong (suc k) zero h = refl
desc-cong (suc k) (suc m) h =
    ap₂ (λ x y. x ⊕ y) (desc-cong k (suc m) (λ l d e. h (suc m ∷ l) (one {m = suc m} {a = m} (omega arith) d) (ap suc e))) (desc-cong (suc k) m (λ l d e. h l (wider d) e))

-- a list with the sum n has no part above n, and at most n of them
of-total-no : (n : ℕ) (f : List ℕ → ℤ) (l : List ℕ) → ¬ (total l ≡ n) → of-total n f l ≡ pos 0
of-total-no n f l h = ap (λ b. cond b (f l) (pos 0)) (ne_eqb (total l) n h)

pub too_long : (k m n : ℕ) (f : List ℕ → ℤ) → n < k → desc k m (of-total n f) ≡ pos 0
too_long k m n f h =
    desc-cong k m (λ l d e. of-total-no n f l (λ t. omega (arith, long d))) ∙ at_zero (desc k m) (desc-linear k m)

one_less : (k m n : ℕ) (f : List ℕ → ℤ) → n ≤ m → desc k (suc m) (of-total n f) ≡ desc k m (of-total n f)
unfolding desc total
one_less zero m n f h = refl
one_less (suc k) m n f h =
    ap (λ x. x ⊕ desc (suc k) m (of-total n f))
    (ap (desc k (suc m)) (fun_ext (λ l. of-total-no n f (suc m ∷ l) (λ t. omega arith))) ∙ at_zero (desc k (suc m)) (desc-linear k (suc m)))
    ∙ zero-add _

pub narrow : (k m n : ℕ) (f : List ℕ → ℤ) → n ≤ m → desc k m (of-total n f) ≡ desc k n (of-total n f)
narrow k zero n f h = ap (λ x. desc k x (of-total n f)) zero_is
  where
    zero_is : 0 ≡ n
    zero_is = omega arith
narrow k (suc m) n f h =
    by-leb (suc m) n (λ b. desc k (suc m) (of-total n f) ≡ desc k n (of-total n f))
    (λ g. ap (λ x. desc k x (of-total n f)) (omega arith))
    (λ g. one_less k m n f (omega arith) ∙ narrow k m n f (omega arith))
