-- `capi_roads::Lists::jets` meets its contract. Assumes nothing.
use Rattle.std.specs.Prelude.{List, [], ◌≡◌, ℕ, ℤ, min, length, take, drop}
use Rattle.calculus.proofs.LoopFilling.{CurveStored}
use Rattle.capi_roads.specs.Recipes.{total, jet_at}
use Rattle.capi_roads.proofs.lists.Lists.jets.Given as goal

-- a jet at its place
abbrev pub Entry : {J : Type 0} → (ℕ → ℕ) → (ℕ → List ℤ → J) → List ℕ → List ℤ → ℕ → J → Type 0
Entry size read orders entries i v = v ≡ jet_at size read orders entries i

abbrev pub invariant-loop-i : goal.invariant-loop-i
invariant-loop-i g l =
    let size = g.J.Jets.size in
    let read = g.J.Listed.input.jet in
    let orders = l.self.orders.now in
    let entries = l.self.entries.now in
    (l.count ≡ min (length orders) 4) × (l.rest ≡ drop (total size (take l.i orders)) entries) × CurveStored 4 (read 0 []) (read 0 []) (Entry size read orders entries) l.i l.jets
