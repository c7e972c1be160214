-- Jets with the same entries up to order n have the same derivatives by any n variables. Assumes nothing.
use Rattle.std.proofs.Common.{◌≡◌, refl, subst, List, [], ◌∷◌, ℕ, zero, suc, ◌-◌, ◌≤◌, arith, length}
use native.Mathlib.Nat.{suc-sub-suc}
use Rattle.calculus.proofs.Jet.{Jet, derive, value, jets, Same}
use Rattle.calculus.proofs.Plain.{along, entry_of}

same-value : (d n : ℕ) (s t : Jet d) → Same d n s t → value d s ≡ value d t
same-value zero n s t h = h
same-value (suc d) n s t h = same-value d (n - 0) (s 0) (t 0) (h 0 (omega arith))

same-derive : (d k n : ℕ) (s t : Jet d) → Same d (suc n) s t → Same d n (derive d k s) (derive d k t)
same-derive zero k n s t h = refl
same-derive (suc d) zero n s t h = λ i l. subst (λ m. Same d m (s (suc i)) (t (suc i))) (suc-sub-suc n i) (h (suc i) (omega arith))
same-derive (suc d) (suc k) n s t h = λ i l. same-derive d k (n - i) (s i) (t i) (subst (λ m. Same d m (s i) (t i)) (one_more n i l) (h i (omega arith)))
  where
    one_more : (n i : ℕ) → i ≤ n → suc n - i ≡ suc (n - i)
    one_more n i l = omega arith

pub same_entries : (d n : ℕ) (s t : Jet d) → Same d n s t → (ks : List ℕ) → length ks ≤ n → entry_of (jets d) s ks ≡ entry_of (jets d) t ks
unfolding along
same_entries d n s t h [] l = same-value d n s t h
same_entries d zero s t h (k ∷ ks) l = absurd (omega arith)
same_entries d (suc n) s t h (k ∷ ks) l = same_entries d n (derive d k s) (derive d k t) (same-derive d k n s t h) ks (omega arith)
