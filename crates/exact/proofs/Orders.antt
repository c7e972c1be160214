-- The tests of the orders of a carry: the answer where all pass. Assumes nothing.
use Rattle.std.proofs.Common.{◌≡◌, Bool, true, false, ◌||◌, ℕ, ◌≤◌, min, ltb, Ok, Err, refl, sym, ap, ◌∙◌, arith, le-ltb}
use Rattle.std.specs.Prelude.{Result, ⊤}
use Rattle.std.specs.Result.{result_and, is_err}
use Rattle.refusals.specs.declared.Refusal.{Refusal}
use Rattle.calculus.specs.JetKind.{tested, above20}
use Rattle.calculus.proofs.Tested.{near-at}
use Rattle.calculus.proofs.Passed.{passed as worked}

abbrev Tested : Type 0
Tested = Result ⊤ Refusal

-- the orders of the surface and of the curve, and the order asked
abbrev pub within_orders : ℕ → ℕ → ℕ → Tested
within_orders s c n = tested Err (above20 s c || ltb 20 n) (ltb (min s c) n) true (Ok tt)

none-above : (p q : Bool) → ◌≡◌ {A = Tested} (tested Err p q true (Ok tt)) (Ok tt) → p ≡ false
none-above true q e = ap is_err e
none-above false q e = refl

all-tested : {B : Type 0} (r : Result B Refusal) (p q : Bool) → result_and (tested {B = Tested} Err p q true (Ok tt)) r ≡ tested Err p q true r
all-tested r true q = refl
all-tested r false true = refl
all-tested r false false = refl

module _ (s c n : ℕ) where
  pub ordered : {B : Type 0} (r : Result B Refusal) → result_and (within_orders s c n) r ≡ tested Err (above20 s c || ltb 20 n) (ltb (min s c) n) true r
  ordered r = all-tested r (above20 s c || ltb 20 n) (ltb (min s c) n)

  pub within : s ≤ 20 → c ≤ 20 → n ≤ 20 → n ≤ s → n ≤ c → within_orders s c n ≡ Ok tt
  within hs hc hn g h = rw (le-ltb 20 s hs, le-ltb 20 c hc, le-ltb 20 n hn, le-ltb (min s c) n (omega (arith, g, h)))

  pub asked-within : {k : ℕ} → tested Err (above20 s c || ltb 20 n) (ltb (min s c) n) true (Ok n) ≡ Ok k → within_orders s c n ≡ Ok tt
  asked-within e = let h = worked (above20 s c || ltb 20 n) (ltb (min s c) n) true e in rw (h.low, h.fits)

  module _ (e : within_orders s c n ≡ Ok tt) where
    pub passed : {B : Type 0} (r : Result B Refusal) → r ≡ tested Err (above20 s c || ltb 20 n) (ltb (min s c) n) true r
    passed r = ap (λ (w : Tested). result_and w r) (sym e) ∙ ordered r

    pub in-range : n ≤ 20
    in-range = near-at s c n refl (none-above (above20 s c || ltb 20 n) (ltb (min s c) n) e)
