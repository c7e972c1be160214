-- A number alone goes into a list of one as it is delivered. Assumes nothing.
use Rattle.std.proofs.Common.{◌≡◌, refl, sym, ◌∙◌, Bool, true, false, cond, List, [], ◌∷◌, ℕ, ℤ, eqb, length, arith}
use Rattle.std.specs.Prelude.{Result, Ok, Err, ⊤}
use Rattle.std.specs.Result.{result_and}
use Rattle.refusals.specs.declared.Refusal.{Refusal}
use Rattle.refusals.specs.Number.{number, number_of}
use Rattle.refusals.proofs.Numbers.{number-pos}
use Rattle.whole.specs.Checked.{Whole}
use Rattle.given.specs.Given.{first, count_given}
use Rattle.given.specs.Lists.{admitted, alone}
use Rattle.given.specs.Values.{to_whole, to_count}
use Rattle.given.proofs.Admission.{one-fits, refused}
use Rattle.exact_lists.specs.Delivery.{deliver_whole, deliver_count}

-- a list that is tested need not be tested again
tested : {L : Type 0} (t : Bool) (out : L) (x y : ℕ × L) → admitted (cond t 0 2) out (cond t x y) ≡ admitted (cond t 0 2) out x
tested true out x y = refl
tested false out x y = refl

again : {L : Type 0} (t : Bool) (out : L) (x : ℕ × L) → admitted (cond t 0 2) out (admitted (cond t 0 2) out x) ≡ admitted (cond t 0 2) out x
again true out x = refl
again false out x = refl

pub whole_alone : (w : Whole) (out : List ℤ) → alone to_whole w out ≡ deliver_whole w out
unfolding deliver_whole
whole_alone (Ok z) out = tested (eqb (length out) 1) out (0, z ∷ []) (2, out)
whole_alone (Err c) out = refl

-- a count's refusal, or its list's, comes before
pub count_alone : (w : Result ℕ Refusal) (out : List ℕ) → admitted (first (number_of w) (count_given 1 (length out))) out (alone to_count w out) ≡ deliver_count w out
unfolding first deliver_count
count_alone (Ok v) out =
    again (eqb (length out) 1) out (cond (eqb (length out) 1) (0, v ∷ []) (2, out)) ∙ tested (eqb (length out) 1) out (0, v ∷ []) (2, out)
count_alone (Err c) out =
    let x = count_given 1 (length out) in
    let e : first (number c) x ≡ first (number c) x = refl in
    sym (refused out e (alone to_count (Err c) out) (λ z. absurd (omega (arith, number-pos c, one-fits (number c) x z))))

-- whether a count is answered, without the count
pub count-number : (w : Result ℕ Refusal) → number_of {A = ⊤} (result_and w (Ok tt)) ≡ number_of w
count-number (Ok v) = refl
count-number (Err c) = refl
