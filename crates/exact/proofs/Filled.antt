-- An array of zeros into which the entries of a jet are copied. Assumes nothing.
use Rattle.std.proofs.Common.{◌≡◌, Bool, true, false, cond, List, ◌++◌, ℕ, ℤ, pos, ◌+◌, ◌-◌, ◌≤◌, ◌<◌, ltb, length, get_or, drop, replicate, refl, sym, ap, ◌∙◌, arith, length-append, length-drop, zero-add, ltb-true, ltb-false}
use Rattle.std.proofs.lemmas.List.{get_or_append_left, get_or-drop, length-replicate, get_or-replicate}
use Rattle.std.proofs.Math.Seq.{ext_get_or, get_or-append_right}
use Rattle.calculus.specs.Array.{listed, filled}
use Rattle.calculus.proofs.LoopFilling.{listed-length, listed_at, filled-length, filled_at}

-- ---- the first n numbers are copied from elsewhere
module _ (f : ℕ → ℤ) {n : ℕ} (part : List ℤ) (l : length part ≡ n) (h : (k : ℕ) → k < n → get_or part k (pos 0) ≡ f k) where
  pub copied : n ≤ 21 → part ++ drop n (replicate 21 (pos 0)) ≡ filled 21 (pos 0) f n
  copied b =
      let long : length (part ++ drop n (replicate 21 (pos 0))) ≡ 21 = simp (length-append, length-drop, length-replicate) (omega arith) in
      ext_get_or (pos 0) (part ++ drop n (replicate 21 (pos 0))) (filled 21 (pos 0) f n) (long ∙ sym (filled-length 21 (pos 0) (pos 0) f n))
      (λ k q. at k (omega (arith, q, long)) (ltb k n) refl ∙ sym (filled_at 21 (pos 0) (pos 0) f n k (omega (arith, q, long))))
    where
      at : (k : ℕ) → k < 21 → (t : Bool) → ltb k n ≡ t → get_or (part ++ drop n (replicate 21 (pos 0))) k (pos 0) ≡ cond t (f k) (pos 0)
      at k q true e = get_or_append_left part _ (pos 0) k (omega (arith, ltb-true k n e)) ∙ h k (ltb-true k n e)
      at k q false e =
          let g : n ≤ k = ltb-false k n e in
          let m : n + (k - length part) ≡ k = omega (arith, g, l) in
          get_or-append_right part _ k (pos 0) (omega (arith, g, l)) ∙ get_or-drop n (replicate 21 (pos 0)) (k - length part) (pos 0)
          ∙ ap (λ (x : ℕ). get_or (replicate 21 (pos 0)) x (pos 0)) m ∙ get_or-replicate 21 k (pos 0) (pos 0) q

  -- all that a list holds
  pub all-listed : part ≡ listed f 0 n
  all-listed =
      ext_get_or (pos 0) part (listed f 0 n) (l ∙ sym (listed-length (pos 0) f 0 n))
      (λ k q. h k (omega (arith, q, l)) ∙ sym (listed_at (pos 0) f 0 n k (omega (arith, q, l)) ∙ ap f (zero-add k)))
