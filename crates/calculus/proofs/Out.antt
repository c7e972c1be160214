-- A sum that goes through a list without one of its parts, and the parts of a list added by their values, over the integers.
-- Assumes nothing.
use Rattle.std.proofs.Common.{◌≡◌, refl, sym, ◌∙◌, ap, subst, cond, List, [], ◌∷◌, ℕ, zero, suc, ◌+◌, ◌*◌, ◌≤◌, arith, zero-add as nat-zero-add, eqb, ℤ, pos, ne_eqb}
use Rattle.calculus.proofs.Ints.{◌⊕◌, ◌⊗◌, sum}
use Rattle.partitions.specs.Parts.{total}
use Rattle.partitions.proofs.Out.{Out, here, there, Pos, count, sum as natural, by_value as by_values}
use Rattle.calculus.proofs.Ring.{mul-zero, pos-add, pos-mul}
use Rattle.calculus.proofs.Sums.{sum-cong}
use Rattle.partitions.proofs.Tests.{by_eqb}
use Rattle.calculus.proofs.Desc.{without}

pub without-cong : (v : ℕ) (l : List ℕ) {f g : List ℕ → ℤ} → ((r : List ℕ) → Out v l r → f r ≡ g r) → without v l f ≡ without v l g
unfolding without
without-cong v [] h = refl
without-cong v (a ∷ l) {f} {g} h =
    by_eqb a v (λ b. cond b (f l) (without v l (λ r. f (a ∷ r))) ≡ cond b (g l) (without v l (λ r. g (a ∷ r))))
    (λ e. h l (subst (λ x. Out v (x ∷ l) l) (sym e) here))
    (λ n. without-cong v l (λ r o. h (a ∷ r) (there o)))

-- a constant goes through where v is a part
constant : (v : ℕ) (l : List ℕ) (y : ℤ) → without v l (λ r. y) ≡ cond (eqb (count v l) 0) (pos 0) y
unfolding without count
constant v [] y = refl
constant v (a ∷ l) y =
    by_eqb a v (λ b. cond b y (without v l (λ r. y)) ≡ cond (eqb (cond b 1 0 + count v l) 0) (pos 0) y)
    (λ e. ap (λ b. cond b (pos 0) y) (sym (ne_eqb (1 + count v l) 0 (λ z. omega arith))))
    (λ n. constant v l y ∙ ap (λ k. cond (eqb k 0) (pos 0) y) (sym (nat-zero-add (count v l))))

pub without-count : (v : ℕ) (l : List ℕ) (x : ℤ) → without v l (λ r. x ⊗ pos (count v l)) ≡ x ⊗ pos (count v l)
without-count v l x =
    constant v l (x ⊗ pos (count v l))
    ∙ by_eqb (count v l) 0 (λ b. cond b (pos 0) (x ⊗ pos (count v l)) ≡ x ⊗ pos (count v l))
    (λ e. sym (ap (λ n. x ⊗ pos n) e ∙ mul-zero x)) (λ n. refl)

-- the parts added by value
sum-pos : (n : ℕ) (f : ℕ → ℕ) → sum n (λ i. pos (f i)) ≡ pos (natural n f)
unfolding sum natural
sum-pos zero f = refl
sum-pos (suc n) f = ap (λ x. x ⊕ pos (f n)) (sum-pos n f) ∙ sym (pos-add (natural n f) (f n))

pub by_value : (N : ℕ) {l : List ℕ} → Pos l → total l ≤ N → sum N (λ w. pos (suc w) ⊗ pos (count (suc w) l)) ≡ pos (total l)
by_value N {l} p h = sum-cong N (λ w k. sym (pos-mul (suc w) (count (suc w) l))) ∙ sum-pos N (λ w. suc w * count (suc w) l) ∙ ap pos (by_values N p h)
