-- `capi_exact::part_lists::write_walk` meets its contract. Assumes nothing.
use Rattle.std.proofs.Common.{Bool, true, false, cond, ◌≡◌, List, [], ◌∷◌, ◌++◌, ℕ, ◌-◌, length, set, take, drop, refl, ap, ◌∙◌, arith, length-drop, rules, append-nil}
use Rattle.std.proofs.Math.ListN.{drop_of_length-le}
use Rattle.std.specs.Int.{from_bool}
use Rattle.calculus.proofs.LoopWriting.{Writing, writing_begins, writing-goes-on}
use Rattle.capi_exact.specs.PartLists.{walk_numbers}
use Rattle.capi_exact.proofs.part_lists.write_walk.Goals as goal

-- three numbers are written, and the 20 after them are replaced
module _ (out rest : List ℕ) (a b d : ℕ) (h : length out ≡ 23) (t : length rest ≡ 20) where
  abbrev begun : List ℕ
  begun = set (set (set out 0 a) 1 b) 2 d

  writing : Writing (a ∷ b ∷ d ∷ rest) begun rest 3
  writing =
      let all : List ℕ = a ∷ b ∷ d ∷ rest in
      writing-goes-on all (writing-goes-on all (writing-goes-on all (writing_begins all out refl (omega (arith, h, t))) refl) refl) refl

  written : take 3 begun ++ (rest ++ drop (length begun - 3) (drop 3 begun)) ≡ a ∷ b ∷ d ∷ rest
  written =
      let z : drop (length begun - 3) (drop 3 begun) ≡ [] = drop_of_length-le (drop 3 begun) (omega (arith, length-drop 3 begun)) in
      ap (λ (r : List ℕ). take 3 begun ++ (rest ++ r)) z ∙ ap (λ (r : List ℕ). take 3 begun ++ r) (append-nil rest) ∙ writing.begun

as_number : (b : Bool) → from_bool b ≡ cond b 1 0
as_number true = refl
as_number false = refl

pub returns : goal.returns
unfolding walk_numbers
returns c =
    let w = c.args.walk in
    let t : length w.current ≡ 20 = search rules in
    rw c.copy_from_slice.ensures.after (written c.args.out.now w.current w.order w.len c.from.result c.requires t ∙ ap (λ (x : ℕ). w.order ∷ w.len ∷ x ∷ w.current) (c.from.ensures ∙ as_number w.end))
