-- `capi_roads::recipe_steps::read_steps` meets its contract. The invariant: the steps passed are stored, and the iterator has the rest. Assumes nothing.
use Rattle.std.specs.Prelude.{List, ◌≡◌, ℕ, ◌+◌, ◌*◌, ◌≤◌, length, drop}
use Rattle.calculus.proofs.LoopFilling.{CurveStored}
use Rattle.roads.specs.declared.Step.{Step}
use Rattle.capi_roads.specs.Recipes.{step_at, blank_step}
use Rattle.capi_roads.proofs.recipe_steps.read_steps.Given as goal

-- a step at its place
abbrev pub Entry : List ℕ → ℕ → Step → Type 0
Entry steps k v = v ≡ step_at steps k

abbrev pub invariant-loop-i : goal.invariant-loop-i
invariant-loop-i l =
    let left = l.i-iterator in
    let done = left.count in
    (left.iter.n + done ≡ 12) × (3 * done ≤ length l.steps) × (left.iter.iter.size ≡ 3) × (left.iter.iter.rest.now ≡ drop (3 * done) l.steps)
    × CurveStored 12 blank_step blank_step (Entry l.steps) done l.program
