-- A binomial coefficient of an order up to 20, as `calculus::choose` gives it. Assumes nothing.
use Rattle.std.proofs.Common.{◌≡◌, Bool, cond, ℕ, ◌≤◌, ltb, ap, ◌∙◌, le-ltb}
use Rattle.calculus.specs.Choose.{choose}

pub chosen : {x : ℕ} (m i : ℕ) → m ≤ 20 → x ≡ cond (ltb 20 m) 0 (choose m i) → x ≡ choose m i
chosen m i h e = e ∙ ap (λ (t : Bool). cond t 0 (choose m i)) (le-ltb 20 m h)
