-- What a call answers, on what the call before it answered. Assumes nothing.
use Rattle.std.proofs.Common.{◌≡◌, Result, Ok, Err, refl, ap, sym}
use Rattle.std.specs.Result.{result_unwrap_or, is_err, IsErrAnd}
use Rattle.refusals.specs.declared.Refusal.{Refusal}
use Rattle.whole.proofs.Range.{never}
use Rattle.roads.specs.Recipe.{and_then}

pub same-answer : {A : Type 0} {a b : A} → ◌≡◌ {A = Result A Refusal} (Ok a) (Ok b) → a ≡ b
same-answer {A} {a} e = ap (λ (r : Result A Refusal). result_unwrap_or r a) e

pub no_answer : {A X : Type 0} {c : Refusal} {a : A} → ◌≡◌ {A = Result A Refusal} (Err c) (Ok a) → X
no_answer e = never (sym (ap is_err e))

-- where the second is answered, so is the first
pub first-answered : {A B : Type 0} (r : Result A Refusal) (f : A → Result B Refusal) {b : B} → and_then r f ≡ Ok b → (a : A) × (r ≡ Ok a) × (f a ≡ Ok b)
first-answered (Ok a) f e = (a, refl, e)
first-answered (Err c) f e = no_answer e

-- one call on two, the second of them on the first
pub then-assoc : {A B C : Type 0} (r : Result A Refusal) (f : A → Result B Refusal) (g : B → Result C Refusal) →
    and_then (and_then r f) g ≡ and_then r (λ a. and_then (f a) g)
then-assoc (Ok a) f g = refl
then-assoc (Err c) f g = refl

pub then-ok : {A : Type 0} (r : Result A Refusal) → r ≡ and_then r (λ a. Ok a)
then-ok (Ok a) = refl
then-ok (Err c) = refl

-- what a `?` returns
pub passed-on : {A : Type 0} {r : Result A Refusal} {c : Refusal} → IsErrAnd r (λ e. e ≡ c) → r ≡ Err c
passed-on {r = Err e} h = ap (λ (c : Refusal). Err c) h
passed-on {r = Ok a} h = absurd h
