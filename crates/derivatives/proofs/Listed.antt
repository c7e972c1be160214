-- The lists of jets of floats: the entries of a curve as they are copied. Assumes nothing.
use Rattle.std.proofs.Common.{◌≡◌, List, Float, ℕ, ◌≤◌, ◌<◌, length, get_or, take, drop, ◌++◌, sym, ap, ◌∙◌, arith, zero-add}
use Rattle.std.proofs.lemmas.List.{length-take, get_or-take, drop_all, append-nil}
use Rattle.std.proofs.Math.Seq.{ext_get_or}
use Rattle.std.specs.Float.{nan}
use Rattle.calculus.specs.Array.{listed}
use Rattle.calculus.proofs.LoopFilling.{listed-length, listed_at}

-- the first n of a list are its entries in turn
pub listed-take : (n : ℕ) (l : List Float) → n ≤ length l → take n l ≡ listed (λ k. get_or l k nan) 0 n
listed-take n l h =
    let long : length (take n l) ≡ n = simp length-take (omega arith) in
    ext_get_or nan (take n l) (listed (λ k. get_or l k nan) 0 n) (long ∙ sym (listed-length nan (λ k. get_or l k nan) 0 n))
    (λ k q. let b : k < n = omega (arith, q, long) in
    get_or-take n l k nan b ∙ ap (λ (x : ℕ). get_or l x nan) (sym (zero-add k)) ∙ sym (listed_at nan (λ k. get_or l k nan) 0 n k b))

-- and over a list of that length
pub listed-over : (n : ℕ) (l out : List Float) → n ≤ length l → length out ≡ n → take n l ++ drop n out ≡ listed (λ k. get_or l k nan) 0 n
listed-over n l out h e =
    ap (λ (x : List Float). take n l ++ x) (drop_all n out (omega (arith, e))) ∙ append-nil (take n l) ∙ listed-take n l h
